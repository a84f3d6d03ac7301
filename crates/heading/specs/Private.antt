-- Parts of the header's line.
use Rattle.std.specs.Prelude.{ℕ, List, ◌++◌}
use Rattle.layout.specs.declared.Header.{Header}
use Rattle.text.specs.Digits.{digits, decimal_of}
use Rattle.text.specs.Text.{ascii}
use Rattle.writing.specs.Writing.{number_line}

abbrev pub busy_of : Header → List ℕ
busy_of h = ascii " busy " ++ digits 16 8 h.busy.0

-- up to the busy identifier, and the rest
abbrev pub counts_of : Header → List ℕ
counts_of h = (ascii "number " ++ decimal_of h.number) ++ (ascii " returned " ++ decimal_of h.returned) ++ busy_of h

abbrev pub limits_of : Header → List ℕ
limits_of h = (ascii " limit " ++ decimal_of h.limit) ++ number_line (ascii " removed ") h.removed
