-- An event, by what it was found to be.
use mathlib.Core.Path.{◌≡◌, sym, ◌∙◌}
use Rattle.arguments.specs.declared.Bare.{Bare}
use Rattle.device.specs.Machine.{told}
use Rattle.device.specs.declared.Device.{Device}
use Rattle.paper.specs.Told.{Told}
use Rattle.events.specs.Events.{bare_event}

pub bare_found : (d : Device) (b found : Bare) → b ≡ found → (t : Told Device) → t ≡ told d (bare_event found) → t ≡ told d (bare_event b)
bare_found d b found is_found t is_t = is_t ∙ sym (rw is_found)
