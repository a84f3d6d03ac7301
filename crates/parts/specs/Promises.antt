-- What holds of every part. Each is a statement; proofs/ has the proof under the same name in lower case.
use Rattle.std.specs.Prelude.{ℕ, ◌<◌, true, List, ◌≡◌, length}
use Rattle.compare.specs.Differences.{differences_of}
use Rattle.compare.specs.Promises.{id_of}
use Rattle.compare.specs.declared.Line.{Line}
use Rattle.layout.specs.Bytes.{descriptor_in}
use Rattle.layout.specs.Reserved.{DescriptorsAlike}
use Rattle.reach.specs.Opening.{accepted}
use Rattle.reach.specs.Pages.{count_of, element_at}
use Rattle.reader.specs.Reserved.{LooksAlike}
use Rattle.request.specs.declared.Request.{Request}
use Rattle.slices.specs.Lists.{Every}
use Rattle.words.specs.declared.Order.TheVariants.{Little}
use Rattle.parts.specs.Parts.{descriptor_part, part_of}

-- of an accepted page, each descriptor is handed out whole, and reads as what stands there
abbrev pub HandsOut : Type 0
HandsOut =
    (s : List ℕ) (q : Request) (k : ℕ) → accepted s q ≡ true → k < count_of s
    → (length (descriptor_part s k) ≡ 32) × (descriptor_in Little (descriptor_part s k) ≡ element_at s k)

-- "For each line the tool hands out the descriptor itself": 32 bytes with the line's identifier
abbrev pub HandsOutEach : Type 0
HandsOutEach =
    (s t : List ℕ) (q : Request) → accepted s q ≡ true → accepted t q ≡ true
    → Every (λ l. (length (part_of s t l) ≡ 32) × ((descriptor_in Little (part_of s t l)).id ≡ id_of s t l)) (differences_of s t)

-- of pages that look alike a line hands out descriptors that are alike; s and t look like s' and t'
abbrev pub HandsOutAlike : Type 0
HandsOutAlike =
    (s s' t t' : List ℕ) → LooksAlike Little s s' → LooksAlike Little t t' → (l : Line) → DescriptorsAlike (part_of s t l) (part_of s' t' l)
