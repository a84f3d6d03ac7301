-- docs/BENCH.md: what a line of the language says of the device is one event.
use Rattle.std.specs.Prelude.{ℕ}
use Rattle.arguments.specs.declared.Bare.TheVariants as bares
use Rattle.arguments.specs.declared.Bare.{Bare}
use Rattle.arguments.specs.declared.Command.{Command}
use Rattle.arguments.specs.declared.Grade.{Grade}
use Rattle.device.specs.Machine as machine
use Rattle.device.specs.Machine.{Event}

-- "`command STATE CODE FEATURE COUNT LBA LENGTH`: the front call", over a lent buffer of `room` bytes
abbrev pub event_of : Command → ℕ → Event
event_of c room = machine.command c.security c.registers room

-- "`step`, `error`, `cut`, `comreset`, `hardreset`, `softreset`"
abbrev pub bare_event : Bare → Event
bare_event bares.Step = machine.step
bare_event bares.Error = machine.media_error
bare_event bares.Cut = machine.power_cut
bare_event bares.Comreset = machine.comreset
bare_event bares.Hardreset = machine.hardware_reset
bare_event bares.Softreset = machine.software_reset

-- "`grade ID HEALTH`"
abbrev pub grade_event : Grade → Event
grade_event g = machine.grade g.id g.health
