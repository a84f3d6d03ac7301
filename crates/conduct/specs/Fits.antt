-- The numbers of a device that a page shows fit their fields, and its arrays have 128 places. The lent making promises it of the device that
-- it leaves, whose types bound them (calls/src/lib.rt, `make_device`; recorder/src/lib.rt, `recorder_make`), and every event keeps it (Promises,
-- `KeepsFit`).
use Rattle.std.specs.Prelude.{ℕ, ◌^◌, ◌<◌, ◌≡◌, length}
use Rattle.cells.specs.declared.Note.TheVariants.{Full}
use Rattle.cells.specs.declared.Removal.{Removal}
use Rattle.device.specs.declared.Device.{Device}
use Rattle.slices.specs.Lists.{Every}
use Rattle.table.specs.declared.Part.{Part}

pub record PartFits (p : Part) : Type 0 where
  pub id : p.id.0 < 2 ^ 32
  pub kind : p.kind < 2 ^ 8
  pub blocks : p.blocks < 2 ^ 64

pub record Fits (d : Device) : Type 0 where
  pub full : length d.table.parts ≡ 128
  pub each : Every PartFits d.table.parts
  pub celled : length d.cells.healths ≡ 128
  pub healths : Every (λ (h : ℕ). h < 2 ^ 8) d.cells.healths
  pub limit : d.table.limit < 2 ^ 16
  pub noted : (w : Removal) → d.cells.note ≡ Full w → w.element.0 < 2 ^ 32
