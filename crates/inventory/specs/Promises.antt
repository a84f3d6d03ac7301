-- What holds of every device's text. It is a statement; proofs/ has the proof under the same name in lower case.
use Rattle.std.specs.Prelude.{◌≤◌, length}
use Rattle.device.specs.declared.Device.{Device}
use Rattle.inventory.specs.Inventory.{cells_of}

-- room for every device
abbrev pub Enough : Type 0
Enough = (d : Device) → length (cells_of d) ≤ 6000
