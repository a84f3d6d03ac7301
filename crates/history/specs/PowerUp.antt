-- When the power is back, firmware tells the cut and makes four steps, each a call of its own with at most one store. "After a cut during a
-- removal, four undisturbed steps bring that about."
use Rattle.std.specs.Prelude.{◌≡◌}
use Rattle.cells.specs.declared.Note.TheVariants.{Empty}
use Rattle.device.specs.Machine.{step, power_cut}
use Rattle.device.specs.declared.Device.{Device}
use Rattle.history.specs.Promise.{Promise}
use Rattle.history.specs.Runs.{Script, begin, ◌▸◌, ◌▸▸◌, after, history}
use Rattle.history.specs.Starts.{Startable}

abbrev pub power_up : Script
power_up = begin ▸ power_cut ▸ step ▸ step ▸ step ▸ step

-- after any run, powering up leaves no removal under way, and the promise of demand 3 holds
abbrev pub PoweredUpRests : Type 0
PoweredUpRests =
    (start : Device) → Startable start → (s : Script)
    → ((after start (s ▸▸ power_up)).cells.note ≡ Empty) × Promise start (history start (s ▸▸ power_up)) (after start (s ▸▸ power_up))
