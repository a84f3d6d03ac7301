-- What the numbers of an image say. "any bytes are a device" (c/recorder.h): each number has a reading, whatever it is.
use Rattle.std.specs.Prelude.{ℕ, cond, eqb}
use Rattle.cells.specs.declared.Mark.TheVariants.{Clear, Set}
use Rattle.cells.specs.declared.Mark.{Mark}
use Rattle.cells.specs.declared.Note.TheVariants.{Empty, Full}
use Rattle.cells.specs.declared.Note.{Note}
use Rattle.cells.specs.declared.Position.TheVariants.{Work1, Work2, Work3, Work4, Work5, Wind1, Wind2, Wind3, Wind4}
use Rattle.cells.specs.declared.Position.{Position}
use Rattle.cells.specs.declared.Removal.{Removal}
use Rattle.device.specs.declared.Device.{Device}
use Rattle.paper.specs.Flags.{is_on}
use Rattle.paper.specs.declared.Security.TheVariants.{Locked, Unlocked, Frozen}
use Rattle.paper.specs.declared.Security.{Security}
use Rattle.image.specs.declared.Image.{Image}

-- 0 locked, 1 unlocked, 2 frozen; "any other security state is locked"
abbrev pub security_of : ℕ → Security
security_of n = cond (eqb n 1) Unlocked (cond (eqb n 2) Frozen Locked)

abbrev pub mark_of : ℕ → Mark
mark_of flag = cond (is_on flag) Set Clear

-- a removal's numbers are the note's while its flag says that it is full
abbrev pub note_of : ℕ → Removal → Note
note_of flag w = cond (is_on flag) (Full w) Empty

-- work steps 0 to 4, winding up 5 to 8; "a position above 8 is the first winding-up step", where a power cut would lead
abbrev pub position_of : ℕ → Position
position_of n =
    cond (eqb n 0) Work1 (cond (eqb n 1) Work2 (cond (eqb n 2) Work3 (cond (eqb n 3) Work4 (cond (eqb n 4) Work5
    (cond (eqb n 6) Wind2 (cond (eqb n 7) Wind3 (cond (eqb n 8) Wind4 Wind1)))))))

abbrev pub place_of : Position → ℕ
place_of Work1 = 0
place_of Work2 = 1
place_of Work3 = 2
place_of Work4 = 3
place_of Work5 = 4
place_of Wind1 = 5
place_of Wind2 = 6
place_of Wind3 = 7
place_of Wind4 = 8

abbrev pub removal_in : Image → Removal
removal_in i = record { element = i.element; old = i.old; new = i.new }

-- the device that an image is
unfoldable pub device_of : Image → Device
device_of i =
    record {
      table = record { parts = i.parts; count = i.count; limit = i.limit };
      cells =
          record {
            native = i.native;
            accessible = i.accessible;
            healths = i.healths;
            failed = mark_of i.failed;
            note = note_of i.full (removal_in i);
          };
      position = position_of i.position;
    }
