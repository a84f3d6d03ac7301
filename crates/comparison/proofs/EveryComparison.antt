-- 160,000 bytes are enough for every text, and it tells the exit status (specs/Promises).
use Prim.Native.Nat.{ℕ, ◌≤◌}
use mathlib.Core.Bool.{true}
use mathlib.Core.List.{List, [], ◌∷◌, ◌++◌, append_assoc}
use mathlib.Core.Path.{◌≡◌, refl, sym, ap, ◌∙◌}
use native.Mathlib.Omega.{arith}
use lib.Dec.{leb}
use lib.ListN.{length, length-append}
use borrow.Author.Tests.{le-leb, le-ltb}
use Rattle.changes.specs.Changes.{line_of}
use Rattle.compare.specs.Differences.{differences_of}
use Rattle.compare.specs.Walk.{first}
use Rattle.compare.specs.declared.Line.TheVariants.{OnlyOlder, OnlyNewer, Changed}
use Rattle.compare.specs.declared.Line.{Line}
use Rattle.ending.proofs.Ending.{length_last}
use Rattle.ending.specs.Ending.{refused_line, last_line}
use Rattle.paper.specs.declared.ElementId.{ElementId}
use Rattle.reach.specs.Opening.{Values, bound, turn, judged}
use Rattle.reach.specs.declared.Turn.TheVariants.{Older, Newer}
use Rattle.reach.specs.declared.Turn.{Turn}
use Rattle.std.specs.Prelude.{Option, Some, None}
use Rattle.comparison.specs.Comparison.{lines_of, differences_for, comparison_of, status_for, status_of}
use Rattle.comparison.specs.Private.{is_accepted, lines_from}
use Rattle.comparison.specs.Promises.{Enough, TellsStatus}
use Rattle.comparison.proofs.Accepted.{by_walk}
use Rattle.comparison.proofs.Lengths.{length_lines}

length_comparison : (s t : List ℕ) → length (comparison_of s t) ≤ 160000
length_comparison s t =
    omega (
      arith,
      ap length (by_walk s t),
      length-append (lines_from (is_accepted (judged s t).state) s t first) (last_line (judged s t).state),
      length_lines s t,
      length_last (judged s t).state,
    )

-- a buffer of that length is not measured for
pub room_unmeasured : (s t : List ℕ) (room : ℕ) → 160000 ≤ room → true ≡ leb (length (comparison_of s t)) room
room_unmeasured s t room h = sym (le-leb (length (comparison_of s t)) room (omega (arith, length_comparison s t)))

pub enough : Enough
enough s t out h = rw (le-ltb (length out) (length (comparison_of s t)) (omega (arith, length_comparison s t)))

module _ (s t : List ℕ) where
  status_line : (l : Line) (rest : List ℕ) → status_of (line_of s t l ++ rest) ≡ 1
  unfolding line_of
  status_line (OnlyOlder k) rest = refl
  status_line (OnlyNewer k) rest = refl
  status_line (Changed c) rest = refl

  status_last : (b : Option ElementId) → status_of (last_line (bound b)) ≡ 0
  status_last None = refl
  status_last (Some id) = refl

  status_lines : (b : Option ElementId) (ls : List Line) → status_of (lines_of s t ls ++ last_line (bound b)) ≡ status_for (bound b) ls
  status_lines b [] = status_last b
  status_lines b (l ∷ ls) =
      ap status_of (append_assoc (line_of s t l) (lines_of s t ls) (last_line (bound b))) ∙ status_line l (lines_of s t ls ++ last_line (bound b))

  status : (v : Values) → status_of (lines_of s t (differences_for s t v) ++ last_line v) ≡ status_for v (differences_of s t)
  status (bound b) = status_lines b (differences_of s t)
  status (turn w) = refused w
    where
      refused : (w : Turn) → status_of (refused_line w) ≡ 2
      refused Older = refl
      refused Newer = refl

pub tells_status : TellsStatus
unfolding comparison_of
tells_status s t = status s t (judged s t).state
