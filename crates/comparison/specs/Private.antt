-- For the promises of private functions: no reader has to believe it. The lines as the code goes: from a cursor on, if the pages were accepted.
use Rattle.std.specs.Prelude.{ℕ, Bool, true, false, cond, List, [], Option, None}
use Rattle.compare.specs.Walk.{next_of, walk_from}
use Rattle.compare.specs.declared.Cursor.{Cursor}
use Rattle.compare.specs.declared.Hit.{Hit}
use Rattle.reach.specs.Opening.{Values, bound, turn}
use Rattle.comparison.specs.Comparison.{lines_of}

abbrev pub is_accepted : Values → Bool
is_accepted (bound b) = true
is_accepted (turn w) = false

abbrev pub step_of : Bool → List ℕ → List ℕ → Cursor → Option Hit
step_of accepted s t c = cond accepted (next_of s t c) None

-- the lines from a cursor on
unfoldable pub lines_from : Bool → List ℕ → List ℕ → Cursor → List ℕ
lines_from accepted s t c = lines_of s t (cond accepted (walk_from s t c) [])
