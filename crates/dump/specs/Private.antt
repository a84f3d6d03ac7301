-- For the promises of private functions: no reader has to believe it. The last row of some data, which may be shorter.
use Rattle.std.specs.Prelude.{ℕ, cond, List, [], eqb, length}
use Rattle.dump.specs.Dump.{row_line}

-- no line for no byte
abbrev pub last_line : List ℕ → List ℕ
last_line s = cond (eqb (length s) 0) [] (row_line s)
