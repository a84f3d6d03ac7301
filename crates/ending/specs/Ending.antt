-- The line that a comparison ends with, as docs/changes/2026-01 asks for it.
use Rattle.std.specs.Prelude.{ℕ, List, [], ◌++◌, Option, Some, None}
use Rattle.paper.specs.declared.ElementId.{ElementId}
use Rattle.reach.specs.Opening.{Values, bound, turn}
use Rattle.reach.specs.declared.Turn.TheVariants.{Older, Newer}
use Rattle.reach.specs.declared.Turn.{Turn}
use Rattle.text.specs.Digits.{digits}
use Rattle.text.specs.Text.{ascii}

-- "a last line when the pages were cut (`compared up to ID`)"
abbrev pub bound_line : ℕ → List ℕ
bound_line id = ascii "compared up to " ++ digits 16 8 id ++ ascii "\n"

abbrev pub reach_line : Option ElementId → List ℕ
reach_line None = []
reach_line (Some id) = bound_line id.0

-- "`refused 9 older` or `refused 9 newer`"
abbrev pub refused_line : Turn → List ℕ
refused_line Older = ascii "refused 9 older\n"
refused_line Newer = ascii "refused 9 newer\n"

abbrev pub last_line : Values → List ℕ
last_line (bound b) = reach_line b
last_line (turn w) = refused_line w
