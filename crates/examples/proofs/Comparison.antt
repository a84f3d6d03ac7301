-- The text of small comparisons, computed from the definitions. Each page is read once, and differences are found by the walk.
use Prim.Native.Nat.{ℕ, ◌-◌}
use mathlib.Core.Bool.{true, false}
use mathlib.Core.List.{List, [], ◌++◌}
use mathlib.Core.Path.{◌≡◌, refl, ap, ◌∙◌}
use lib.ListN.{length, replicate}
use Rattle.changes.specs.Changes.{handed, older_of, line_of}
use Rattle.compare.proofs.Examples.{older, newer}
use Rattle.compare.specs.Walk.{first, key_at, agree_at, step_at, past, next_to, next_of, walk, walk_from}
use Rattle.comparison.proofs.Accepted.{by_walk}
use Rattle.comparison.specs.Comparison.{comparison_of}
use Rattle.comparison.specs.Private.{is_accepted, lines_from}
use Rattle.ending.specs.Ending.{last_line}
use Rattle.parts.specs.Parts.{descriptor_part}
use Rattle.reach.specs.Opening.{Values, bound, accepted, judged}
use Rattle.reach.specs.Pages.{count_of, element_at, reach_of, bound_of}
use Rattle.request.specs.Requests.{refused, takes_health, request_for}
use Rattle.std.specs.Prelude.{Some, None}
use Rattle.text.specs.Text.{ascii}

-- a page of 512 bytes
abbrev padded : List ℕ → List ℕ
padded l = l ++ replicate (512 - length l) 0

abbrev s : List ℕ
s = padded older

abbrev t : List ℕ
t = padded newer

older_taken : accepted s (request_for 1) ≡ true
unfolding refused takes_health accepted
older_taken = refl

newer_taken : accepted t (request_for 1) ≡ true
unfolding refused takes_health accepted
newer_taken = refl

nothing_taken : accepted [] (request_for 1) ≡ false
unfolding refused accepted
nothing_taken = refl

both_taken : (judged s t).state ≡ bound None
unfolding reach_of bound_of judged
both_taken = rw (older_taken, newer_taken)

same_taken : (judged t t).state ≡ bound None
unfolding reach_of bound_of judged
same_taken = rw newer_taken

abbrev text : List ℕ → List ℕ → Values → List ℕ
text a b v = lines_from (is_accepted v) a b first ++ last_line v

-- 1 gone, 3 unchanged, 4 new, 0001_0003h removed; and no difference from itself
pub texts : (comparison_of s t ≡ ascii "- 00000001 01 20 500\n+ 00000004 01 00 500\n~ 00010003 01 FF 500 <- 01 70 500\n") × (comparison_of t t ≡ [])
unfolding count_of element_at reach_of bound_of descriptor_part key_at agree_at step_at past next_to next_of walk walk_from handed older_of line_of lines_from
texts = (by_walk s t ∙ ap (text s t) both_taken ∙ refl, by_walk t t ∙ ap (text t t) same_taken ∙ refl)

pub cut : last_line (bound (Some (record { 0 = 15 }))) ≡ ascii "compared up to 0000000F\n"
cut = refl

pub refused_older : comparison_of [] t ≡ ascii "refused 9 older\n"
unfolding refused accepted judged comparison_of
refused_older = refl

pub refused_newer : comparison_of s [] ≡ ascii "refused 9 newer\n"
unfolding judged comparison_of
refused_newer = rw (older_taken, nothing_taken)
