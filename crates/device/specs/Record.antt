-- What is said of a device, over its table, its cells and its position; and the device after a ruling.
use Rattle.std.specs.Prelude.{ℕ, Bool, Option}
use Rattle.cells.specs.Cells.{make, is_full, health_in, removed_in}
use Rattle.cells.specs.Rulings.{Ruled, quiet}
use Rattle.cells.specs.Sights.{see_in}
use Rattle.cells.specs.declared.Removal.{Removal}
use Rattle.cells.specs.declared.Seen.{Seen}
use Rattle.paper.specs.Told.{Told, tells}
use Rattle.paper.specs.declared.ElementId.{ElementId}
use Rattle.paper.specs.declared.Lba.{Lba}
use Rattle.steps.specs.Steps.{wound_to}
use Rattle.device.specs.declared.Device.{Device}

-- "A removal is under way exactly while the note is full."
abbrev pub under_way : Device → Bool
under_way d = is_full d.cells.note

-- "each element's health": the cell of its place
abbrev pub health_at : Device → ℕ → ℕ
health_at d place = health_in d.cells place

-- how many elements of the table are at FFh
abbrev pub removed_number : Device → ℕ
removed_number d = removed_in d.table d.cells

-- what the search sees
abbrev pub see : Device → ElementId → Option Seen
see d id = see_in d.table d.cells id

-- where winding up leads, with the noted element as it is seen now
abbrev pub wound_up : Device → Removal → Lba
wound_up d w = wound_to (see d w.element) w

-- ## A ruling, carried out

-- a number at the device's own position: nothing changes
abbrev pub says : ℕ → Device → Ruled
says n d = quiet n d.position

-- the store is made in the cells, the position taken, and the table stays as built. The position is no cell: "Only the position in the step
-- list is lost with power"
abbrev pub carried_out : Device → Ruled → Device
carried_out d r = record { table = d.table; cells = make r.store d.cells; position = r.next }

abbrev pub tell : Device → Ruled → Told Device
tell d r = tells r.number (carried_out d r)
