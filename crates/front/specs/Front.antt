-- docs/BENCH.md, "`command STATE CODE FEATURE COUNT LBA LENGTH`: the front call".
use Rattle.std.specs.Prelude.{ℕ, ◌*◌, min, cond, List, ◌++◌, eqb, length, drop, replicate}
use Rattle.arguments.specs.declared.Command.{Command}
use Rattle.device.specs.Machine.{told}
use Rattle.device.specs.declared.Device.{Device}
use Rattle.events.specs.Events.{event_of}
use Rattle.paper.specs.Answers.{number_of}
use Rattle.paper.specs.Told.{Told}
use Rattle.status.specs.Lent.{lent}
use Rattle.front.specs.declared.Left.{Left}

-- what it leaves: the device, the answer's number, how many bytes were lent, and how many of these it wrote
pub record Fronted : Type 0 where
  pub told : Told Device
  pub room : ℕ
  pub count : ℕ

abbrev pub left : Left → Fronted
left l = record { told = record { number = number_of l.answer; state = l.device }; room = l.room; count = l.count }

-- "After a 12h that is answered 0 the page (its first 512p bytes) follows"
abbrev pub written_by : Command → ℕ → ℕ
written_by c n = cond (eqb c.registers.code 0x12) (cond (eqb n 0) (512 * c.registers.count) 0) 0

-- over a lent buffer of `room` bytes
abbrev pub after : Device → Command → ℕ → Fronted
after d c room = let t = told d (event_of c room) in record { told = t; room = room; count = written_by c t.number }

-- what it leaves in the buffer
abbrev pub lent_of : Device → Command → List ℕ → List ℕ
lent_of d c buf = lent d c.security c.registers buf

-- "LENGTH is the lent buffer's", as far as there are bytes
abbrev pub room_of : Command → List ℕ → ℕ
room_of c buf = min c.length (length buf)

unfoldable pub left_after : Device → Command → List ℕ → Fronted
left_after d c buf = after d c (room_of c buf)

-- "filled with A5h before the call"
unfoldable pub lent_after : Device → Command → List ℕ → List ℕ
lent_after d c buf = lent_of d c (replicate (room_of c buf) 0xA5) ++ drop (room_of c buf) buf
