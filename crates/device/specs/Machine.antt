-- The events that a device meets, the ruling of each, and what the device tells: what every call promises.
use Rattle.std.specs.Prelude.{ℕ, cond, eqb}
use Rattle.cells.specs.Rulings.{Ruled}
use Rattle.paper.specs.Told.{Told}
use Rattle.paper.specs.declared.ElementId.{ElementId}
use Rattle.paper.specs.declared.Registers.{Registers}
use Rattle.paper.specs.declared.Security.{Security}
use Rattle.removal.specs.Remove.{rule_remove}
use Rattle.request.specs.Requests.{asked, status_number}
use Rattle.steps.specs.Steps.{rule_step, rule_stop, rule_grade}
use Rattle.device.specs.Commands.{other_number}
use Rattle.device.specs.Record.{says, tell}
use Rattle.device.specs.declared.Device.{Device}

-- a command comes with the security state, its registers, and the length of the lent buffer
pub data Event : Type 0 where
  command : Security → Registers → ℕ → Event
  step media_error power_cut comreset hardware_reset software_reset : Event
  grade : ElementId → ℕ → Event

-- 7Ch has a ruling of its own; any other code is answered with a number, and nothing changes
abbrev pub rule_command : Device → Security → Registers → ℕ → Ruled
rule_command d security r other = cond (eqb r.code 0x7C) (rule_remove d.table d.cells d.position security r) (says other d)

-- that number: 12h has rules of its own
abbrev pub quiet_number : Device → Security → Registers → ℕ → ℕ
quiet_number d security r room = cond (eqb r.code 0x12) (status_number security (asked r) room) (other_number d r)

-- "COMRESET, hardware reset and software reset answer 0 and change nothing (002)."
abbrev pub rule : Device → Event → Ruled
rule d (command security r room) = rule_command d security r (quiet_number d security r room)
rule d step = rule_step d.table d.cells d.position d.cells.note
rule d media_error = rule_stop d.position 10 d.cells.note
rule d power_cut = rule_stop d.position 0 d.cells.note
rule d comreset = says 0 d
rule d hardware_reset = says 0 d
rule d software_reset = says 0 d
rule d (grade id h) = rule_grade d.table d.cells d.position id h

abbrev pub told : Device → Event → Told Device
told d e = tell d (rule d e)
