-- Document 01, "The reader", last paragraph: what a line of the listing says.
use Rattle.std.specs.Prelude.{ℕ, cond, List, ◌++◌, eqb}
use Rattle.layout.specs.Bytes.{all_ones}
use Rattle.layout.specs.declared.Descriptor.{Descriptor}
use Rattle.layout.specs.declared.Header.{Header}
use Rattle.text.specs.Digits.{digits, decimal_of}
use Rattle.text.specs.Text.{ascii}

-- "then capacity, `-` for all ones"
abbrev pub capacity_of : ℕ → List ℕ
capacity_of n = cond (eqb n all_ones) (ascii "-") (decimal_of n)

-- type and health in upper hexadecimal, and the capacity
abbrev pub values_of : Descriptor → List ℕ
values_of d = digits 16 2 d.kind ++ ascii " " ++ digits 16 2 d.health ++ ascii " " ++ capacity_of d.capacity

-- "a line for each descriptor (identifier, type, health in upper hex, then capacity ..)"
abbrev pub descriptor_line : Descriptor → List ℕ
descriptor_line d = digits 16 8 d.id.0 ++ ascii " " ++ values_of d ++ ascii "\n"

-- "number 1 returned 1 busy 00000000 limit 2 removed 0"
abbrev pub header_of : Header → List ℕ
header_of h =
    (ascii "number " ++ decimal_of h.number)
    ++ (ascii " returned " ++ decimal_of h.returned)
    ++ ascii " busy " ++ digits 16 8 h.busy.0
    ++ (ascii " limit " ++ decimal_of h.limit)
    ++ (ascii " removed " ++ decimal_of h.removed)

abbrev pub header_line : Header → List ℕ
header_line h = header_of h ++ ascii "\n"

-- "or `refused 9 at ` and the place"
abbrev pub refused_line : ℕ → List ℕ
refused_line p = ascii "refused 9 at " ++ decimal_of p ++ ascii "\n"
