-- Of pages that look alike the text is one (specs/Promises): they are judged alike, have one list of differences, and each has one line.
use Prim.Native.Nat.{ℕ}
use mathlib.Core.List.{List, ◌++◌}
use mathlib.Core.Path.{◌≡◌, refl}
use Rattle.changes.proofs.Reserved.{line_same}
use Rattle.compare.proofs.Reserved.{reserved_uncompared}
use Rattle.compare.specs.declared.Line.{Line}
use Rattle.ending.specs.Ending.{last_line}
use Rattle.reach.proofs.Reserved.{reserved_unopened}
use Rattle.reach.specs.Opening.{Values, bound, turn}
use Rattle.reader.specs.Reserved.{LooksAlike}
use Rattle.slices.specs.Lists.{flat}
use Rattle.words.specs.declared.Order.TheVariants.{Little}
use Rattle.comparison.specs.Comparison.{lines_of, differences_for, comparison_of}
use Rattle.comparison.specs.Promises.{ReservedUnwritten}

module _ (s s' t t' : List ℕ) (older : LooksAlike Little s s') (newer : LooksAlike Little t t') where
  differences_same : (v : Values) → differences_for s t v ≡ differences_for s' t' v
  differences_same (bound b) = (reserved_uncompared s s' t t' older newer).0
  differences_same (turn w) = refl

  lines_same : (ls : List Line) → lines_of s t ls ≡ lines_of s' t' ls
  lines_same ls = λ i. flat (λ l. line_same s s' t t' older newer l i) ls

pub reserved_unwritten : ReservedUnwritten
unfolding comparison_of
reserved_unwritten s s' t t' older newer = λ i.
    let v = ((reserved_unopened s s' t t' older newer).1 i).state in
    lines_same s s' t t' older newer (differences_same s s' t t' older newer v i) i ++ last_line v
