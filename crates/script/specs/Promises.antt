-- What holds of every line. It is a statement; proofs/ has the proof under the same name in lower case.
use Rattle.std.specs.Prelude.{ℕ, List, ◌≡◌}
use Rattle.pieces.specs.Pieces.{nothing, gathered}
use Rattle.script.specs.Names.{line_of, meaning_of}

-- what was gathered of a line says what the line says, however long it is
abbrev pub SaysItsBytes : Type 0
SaysItsBytes = (l : List ℕ) → meaning_of (gathered nothing l) ≡ line_of l
