-- The bench's device A, at rest and in the removal R1, computed from the definitions; and what its lines do not have: the mark, the flag, a step
-- of the winding up.
use Prim.Native.Nat.{ℕ}
use mathlib.Core.List.{[], ◌∷◌}
use mathlib.Core.Path.{◌≡◌, refl}
use Rattle.cells.specs.Cells.{is_set}
use Rattle.cells.specs.declared.Mark.TheVariants.{Clear, Set}
use Rattle.cells.specs.declared.Note.TheVariants.{Empty, Full}
use Rattle.cells.specs.declared.Note.{Note}
use Rattle.cells.specs.declared.Position.TheVariants.{Work1, Work4, Wind2}
use Rattle.cells.specs.declared.Position.{Position}
use Rattle.device.specs.declared.Device.{Device}
use Rattle.table.specs.declared.Part.{Part}
use Rattle.text.specs.Text.{ascii}
use Rattle.inventory.specs.Inventory.{cells_line, element_line, cells_of}

abbrev part : ℕ → ℕ → ℕ → Part
part id kind blocks = record { id = record { 0 = id }; kind = kind; unreported = 0; spare = 0; blocks = blocks }

-- with this maximum, the health of 0001_0003h, the note and the position
abbrev device_a : ℕ → ℕ → Note → Position → Device
device_a most health note position =
    record {
      table = record { parts = part 1 1 1000 ∷ part 3 1 1500 ∷ part 0x0001_0003 1 500 ∷ part 0x0002_0000 2 0 ∷ []; count = 4; limit = 2 };
      cells = record {
        native = record { 0 = most };
        accessible = record { 0 = most };
        healths = 0x20 ∷ 0x10 ∷ health ∷ 0 ∷ [];
        failed = Clear;
        note = note;
      };
      position = position;
    }

abbrev note_r1 : Note
note_r1 = Full (record { element = record { 0 = 0x0001_0003 }; old = record { 0 = 2999 }; new = record { 0 = 2499 } })

pub at_rest : cells_of (device_a 2999 0x70 Empty Work1) ≡ ascii
    "limit 2 native 2999 accessible 2999 failed 0 note - position work1\n00000001 01 20 1000 0\n00000003 01 10 1500 0\n00010003 01 70 500 0\n00020000 02 00 0 0\n"
unfolding cells_of is_set
at_rest = refl

pub under_way : cells_of (device_a 2499 0xFF note_r1 Work4) ≡ ascii
    "limit 2 native 2499 accessible 2499 failed 0 note 00010003 2999 2499 position work4\n00000001 01 20 1000 0\n00000003 01 10 1500 0\n00010003 01 FF 500 0\n00020000 02 00 0 0\n"
unfolding cells_of is_set
under_way = refl

pub failed : cells_line 1 (record { native = record { 0 = 0 }; accessible = record { 0 = 0 }; healths = []; failed = Set; note = Empty }) Wind2
    ≡ ascii "limit 1 native 0 accessible 0 failed 1 note - position wind2\n"
unfolding is_set
failed = refl

pub unreported : element_line (record { id = record { 0 = 0xFFFF_FFFF }; kind = 0xAB; unreported = 1; spare = 0; blocks = 18446744073709551615 }) 0xCF
    ≡ ascii "FFFFFFFF AB CF 18446744073709551615 1\n"
unreported = refl
