-- Parts of the lines.
use Rattle.std.specs.Prelude.{ℕ, List, ◌++◌}
use Rattle.cells.specs.Cells.{is_set}
use Rattle.cells.specs.declared.Mark.{Mark}
use Rattle.cells.specs.declared.Position.{Position}
use Rattle.paper.specs.declared.Lba.{Lba}
use Rattle.slices.specs.Lists.{one}
use Rattle.table.specs.declared.Part.{Part}
use Rattle.text.specs.Digits.{digits, decimal_of}
use Rattle.text.specs.Text.{ascii}
use Rattle.inventory.specs.Inventory.{position_text}

abbrev pub limits_of : ℕ → Lba → Lba → List ℕ
limits_of limit native accessible =
    (ascii "limit " ++ decimal_of limit) ++ (ascii " native " ++ decimal_of native.0) ++ (ascii " accessible " ++ decimal_of accessible.0)

abbrev pub failed_of : Mark → List ℕ
failed_of m = ascii " failed " ++ decimal_of (one (is_set m))

-- the cells' line up to the failed mark
abbrev pub numbers_of : ℕ → Lba → Lba → Mark → List ℕ
numbers_of limit native accessible mark = limits_of limit native accessible ++ failed_of mark

-- its end
abbrev pub end_of : Position → List ℕ
end_of p = ascii " position " ++ position_text p ++ ascii "\n"

-- an element's line up to the health
abbrev pub head_of : Part → ℕ → List ℕ
head_of p health = digits 16 8 p.id.0 ++ ascii " " ++ digits 16 2 p.kind ++ ascii " " ++ digits 16 2 health
