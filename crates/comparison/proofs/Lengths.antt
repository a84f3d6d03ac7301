-- How long the lines are: at most 38 bytes for each descriptor that the walk passes by them.
use Prim.Native.Nat.{ℕ, ◌*◌, ◌≤◌}
use mathlib.Core.Bool.{true}
use mathlib.Core.List.{List, [], ◌∷◌}
use mathlib.Core.Path.{◌≡◌, refl, ap}
use native.Mathlib.Omega.{arith}
use lib.ListN.{length, length-append}
use Rattle.changes.proofs.Lengths.{line_passes}
use Rattle.changes.specs.Changes.{line_of}
use Rattle.compare.proofs.Walking.{passed, few}
use Rattle.compare.specs.Walk.{first, ahead, walk_from}
use Rattle.compare.specs.declared.Cursor.{Cursor}
use Rattle.compare.specs.declared.Line.{Line}
use Rattle.reach.specs.Opening.{Values, bound, turn, judged}
use Rattle.slices.specs.Lists.{sum}
use Rattle.comparison.specs.Comparison.{lines_of}
use Rattle.comparison.specs.Private.{is_accepted, lines_from}
use Rattle.comparison.proofs.Accepted.{counts, lines_none}

-- ## The walk's lines

module _ (s t : List ℕ) where
  length_of : (ls : List Line) → length (lines_of s t ls) ≤ 38 * sum passed ls
  length_of [] = omega arith
  length_of (l ∷ ls) = omega (arith, line_passes s t l, length_of ls, length-append (line_of s t l) (lines_of s t ls))

  length_from : (c : Cursor) → length (lines_from true s t c) ≤ 38 * ahead s t c
  unfolding lines_from
  length_from c = omega (arith, length_of (walk_from s t c), few s t c)

-- ## The whole text

-- 2,047 descriptors in each page
pub length_lines : (s t : List ℕ) → length (lines_from (is_accepted (judged s t).state) s t first) ≤ 155572
length_lines s t = by_state (judged s t).state refl
  where
    by_state : (v : Values) → (judged s t).state ≡ v → length (lines_from (is_accepted v) s t first) ≤ 155572
    by_state (turn w) e = omega (arith, ap length (lines_none s t first))
    by_state (bound b) e = let (in_s, in_t) = counts s t b e in omega (arith, length_from s t first)
