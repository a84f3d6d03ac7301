-- "For each line the tool hands out the descriptor itself, as part of whichever page it came from, the newer if in both."
use Rattle.std.specs.Prelude.{ℕ, cond, List, [], ltb, length, take, drop}
use Rattle.compare.specs.declared.Line.TheVariants.{OnlyOlder, OnlyNewer, Changed}
use Rattle.compare.specs.declared.Line.{Line}
use Rattle.offences.specs.Checks.{base_of}
use Rattle.reach.specs.Pages.{count_of}

-- the first 32 bytes, none of fewer
abbrev pub first_part : List ℕ → List ℕ
first_part s = cond (ltb (length s) 32) [] (take 32 s)

-- the 32 bytes of descriptor k, none where the page has no such descriptor
unfoldable pub descriptor_part : List ℕ → ℕ → List ℕ
descriptor_part s k = cond (ltb k (count_of s)) (first_part (drop (base_of k) s)) []

abbrev pub part_of : List ℕ → List ℕ → Line → List ℕ
part_of s t (OnlyOlder k) = descriptor_part s k
part_of s t (OnlyNewer k) = descriptor_part t k
part_of s t (Changed c) = descriptor_part t c.newer
