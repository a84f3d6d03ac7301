-- What holds of every call at once. Each is a statement; proofs/ has the proof under the same name in lower case.
use Rattle.std.specs.Prelude.{ℕ, ◌-◌, ◌≡◌, drop, replicate}
use Rattle.cells.specs.Rulings.{Ruled}
use Rattle.cells.specs.declared.Mark.{Mark}
use Rattle.cells.specs.declared.Note.TheVariants.{Empty, Full}
use Rattle.cells.specs.declared.Note.{Note}
use Rattle.cells.specs.declared.Position.TheVariants.{Work1}
use Rattle.cells.specs.declared.Removal.{Removal}
use Rattle.device.specs.Machine.{Event, media_error, power_cut, comreset, hardware_reset, software_reset, told}
use Rattle.device.specs.Record.{health_at, tell}
use Rattle.device.specs.declared.Device.{Device}
use Rattle.paper.specs.Told.{Told, tells, said}
use Rattle.paper.specs.declared.Answer.{Answer}
use Rattle.paper.specs.declared.Lba.{Lba}
use Rattle.table.specs.Elements.{blank_part}
use Rattle.conduct.specs.Fits.{Fits}

-- ## No second answer fits, and no second device: whatever is ruled, and so of every event

abbrev pub OneAnswer : Type 0
OneAnswer = (d : Device) (r : Ruled) (a b : Answer) (x y : Device) → said a x ≡ tell d r → said b y ≡ tell d r → (a ≡ b) × (x ≡ y)

-- ## "Every number but 0 leaves the device .. untouched."

abbrev pub Leaves : Device → Told Device → Type 0
Leaves d t = (t.number ≡ 0 → ⊥) → t.state ≡ d

abbrev pub RefusalLeaves : Type 0
RefusalLeaves = (d : Device) (e : Event) → Leaves d (told d e)

-- ## The table stays as built: what changes of an element is the cell of its health

abbrev pub KeepsTable : Type 0
KeepsTable = (d : Device) (e : Event) → (told d e).state.table ≡ d.table

-- ## Tidy: the places past the count hold blanks and 00h, and the position rests at the first work step while the note is empty

pub record Tidy (d : Device) : Type 0 where
  pub slots : drop d.table.count d.table.parts ≡ replicate (128 - d.table.count) blank_part
  pub healths : drop d.table.count d.cells.healths ≡ replicate (128 - d.table.count) 0
  pub rests : d.cells.note ≡ Empty → d.position ≡ Work1

abbrev pub KeepsTidy : Type 0
KeepsTidy = (d : Device) (e : Event) → Tidy d → Tidy (told d e).state

-- ## The numbers fit their fields, whatever registers come

abbrev pub KeepsFit : Type 0
KeepsFit = (d : Device) (e : Event) → Fits d → Fits (told d e).state

-- ## At most one cell differs after a call, and nothing that is no cell but the position (the making of a device writes them all)

-- "each element's health" is the cell of its place
pub data Cell : Type 0 where
  native_max accessible_max failed_mark note : Cell
  health : ℕ → Cell

pub data Value : Type 0 where
  address_is : Lba → Value
  mark_is : Mark → Value
  note_is : Note → Value
  health_is : ℕ → Value

abbrev pub cell_of : Device → Cell → Value
cell_of d native_max = address_is d.cells.native
cell_of d accessible_max = address_is d.cells.accessible
cell_of d failed_mark = mark_is d.cells.failed
cell_of d note = note_is d.cells.note
cell_of d (health i) = health_is (health_at d i)

pub record OneCell (d x : Device) : Type 0 where
  pub cell : Cell
  pub others : (c : Cell) → (c ≡ cell → ⊥) → cell_of x c ≡ cell_of d c
  pub table : x.table ≡ d.table

abbrev pub AtMostOneCell : Type 0
AtMostOneCell = (d : Device) (e : Event) → OneCell d (told d e).state

-- ## "Only the position in the step list is lost with power."

-- an error or a cut "makes no store"
abbrev pub StopKeepsCells : Type 0
StopKeepsCells = (d : Device) → ((told d power_cut).state.cells ≡ d.cells) × ((told d media_error).state.cells ≡ d.cells)

-- "COMRESET, hardware reset and software reset answer 0 and change nothing (002)."
abbrev pub ResetChangesNothing : Type 0
ResetChangesNothing = (d : Device) → (told d comreset ≡ tells 0 d) × (told d hardware_reset ≡ tells 0 d) × (told d software_reset ≡ tells 0 d)

-- two devices that differ in the position alone
pub record ButPosition (d x : Device) : Type 0 where
  pub table : d.table ≡ x.table
  pub cells : d.cells ≡ x.cells

-- are one after a cut, while the note is full; with an empty note no script tells them apart (history/specs/Runs, `RestsAlike`)
abbrev pub CutForgets : Type 0
CutForgets = (d x : Device) → ButPosition d x → (w : Removal) → d.cells.note ≡ Full w → told d power_cut ≡ told x power_cut

-- every call that ends a removal leaves the position at the first work step
abbrev pub EndsAtRest : Type 0
EndsAtRest =
    (d : Device) (e : Event) (w : Removal) → d.cells.note ≡ Full w → (told d e).state.cells.note ≡ Empty → (told d e).state.position ≡ Work1
