-- The store of a step, as proofs over every event speak of it.
use Rattle.cells.specs.declared.Position.{Position}
use Rattle.cells.specs.declared.Removal.{Removal}
use Rattle.cells.specs.declared.Store.{Store}
use Rattle.steps.specs.Steps.{store_from}
use Rattle.device.specs.Record.{see}
use Rattle.device.specs.declared.Device.{Device}

-- with the noted element as it is seen now
abbrev pub store_at : Device → Removal → Position → Store
store_at d w p = store_from (see d w.element) w p
