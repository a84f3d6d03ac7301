-- How a removal gets on.
use Rattle.std.specs.Prelude.{ℕ, zero, suc, ◌-◌, ◌≤◌, ◌<◌, Bool, true, false, not, ◌&&◌, ◌≡◌}
use Rattle.cells.specs.Sights.{is_there, gone, place_of, blocks_of}
use Rattle.cells.specs.declared.Mark.TheVariants.{Clear, Set}
use Rattle.cells.specs.declared.Note.TheVariants.{Empty, Full}
use Rattle.cells.specs.declared.Position.TheVariants.{Work3, Wind1, Wind3}
use Rattle.cells.specs.declared.Position.{Position}
use Rattle.cells.specs.declared.Removal.{Removal}
use Rattle.cells.specs.declared.Store.TheVariants.{NativeTo, AccessibleTo, Marked, FailedTo, Noted, NoteEmptied}
use Rattle.cells.specs.declared.Store.{Store}
use Rattle.device.specs.Machine.{Event, command, step, rule, told}
use Rattle.device.specs.Record.{under_way, see, wound_up}
use Rattle.device.specs.declared.Device.{Device}
use Rattle.paper.specs.Registers.{low48, identifier_of}
use Rattle.paper.specs.declared.ElementId.{ElementId}
use Rattle.paper.specs.declared.Lba.{Lba}
use Rattle.paper.specs.declared.Registers.{Registers}
use Rattle.paper.specs.declared.Security.{Security}
use Rattle.removal.specs.Remove.{or_difference}
use Rattle.table.specs.Elements.{size, identifier_at}
use Rattle.history.specs.Runs.{of_event, Script, begin, ◌▸◌, ◌▸▸◌, after}

-- ## "Undisturbed": no media error and no power cut; commands, grades and resets may come between the steps

abbrev pub stops : Event → Bool
stops e = of_event false true (λ id h. false) false e

abbrev pub calm : Script → Bool
calm begin = true
calm (s ▸ e) = not (stops e) && calm s

abbrev pub step_by : Event → ℕ → ℕ
step_by e n = of_event (suc n) n (λ id h. n) n e

-- how many steps
abbrev pub steps : Script → ℕ
steps begin = 0
steps (s ▸ e) = step_by e (steps s)

-- ## Acceptance

-- "Acceptance makes one store: the note." Its new maximum is "the LBA, or that difference if the LBA is 0"
abbrev pub note_of : Device → Registers → Removal
note_of d r =
    let id : ElementId = identifier_of r in
    record { element = id; old = d.cells.native; new = or_difference (d.cells.native.0 - blocks_of (see d id)) (low48 r.lba) }

-- 7Ch answered 0 for an element that is not at FFh has made the note of it
abbrev pub Acceptance : Type 0
Acceptance =
    (d : Device) (security : Security) (r : Registers) (room : ℕ) → r.code ≡ 0x7C
    → (told d (command security r room)).number ≡ 0 → gone (see d (identifier_of r)) ≡ false
    → (rule d (command security r room)).store ≡ Noted (note_of d r)

-- answered 0 for one at FFh, it has cleared the failed mark: "no element or address changes, but a failed mark is cleared"
abbrev pub Clearance : Type 0
Clearance =
    (d : Device) (security : Security) (r : Registers) (room : ℕ) → r.code ≡ 0x7C
    → (told d (command security r room)).number ≡ 0 → gone (see d (identifier_of r)) ≡ true
    → (rule d (command security r room)).store ≡ FailedTo Clear

-- ## Which events fill the note, make the marking store, and set the failed mark

-- an accepted 7Ch, while no removal is under way, for an element that is there and not at FFh, and nothing else
abbrev pub NotingStore : Type 0
NotingStore =
    (d : Device) (e : Event) (w : Removal) → (rule d e).store ≡ Noted w
    → (security : Security) × (r : Registers) × (room : ℕ)
    × (e ≡ command security r room) × (r.code ≡ 0x7C) × ((told d e).number ≡ 0) × (under_way d ≡ false) × (w ≡ note_of d r)
    × (is_there (see d w.element) ≡ true) × (gone (see d w.element) ≡ false)

-- the next step is the one at this position, of this removal
pub record At (p : Position) (w : Removal) (d : Device) : Type 0 where
  pub note : d.cells.note ≡ Full w
  pub position : d.position ≡ p

abbrev pub MarkingStore : Type 0
MarkingStore =
    (d : Device) (e : Event) (place : ℕ) → (rule d e).store ≡ Marked place
    → (e ≡ step) × ((w : Removal) × At Work3 w d × (place < size d.table) × (w.element.0 ≡ identifier_at d.table place))

abbrev pub SettingStore : Type 0
SettingStore = (d : Device) (e : Event) → (rule d e).store ≡ FailedTo Set → (e ≡ step) × ((w : Removal) × At Wind3 w d)

-- ## Undisturbed steps

-- k steps are done: the removal is under way, and the next step answers 0 and makes the store of its turn
pub record OnItsWay (stores : ℕ → Store) (w : Removal) (k : ℕ) (d : Device) : Type 0 where
  pub note : d.cells.note ≡ Full w
  pub answer : (told d step).number ≡ 0
  pub store : (rule d step).store ≡ stores k

-- document 01's list, counted from 0: the marking store is the third, at the noted element's place (`MarkingStore`)
abbrev pub work_store : ℕ → Removal → ℕ → Store
work_store place w zero = NativeTo w.new
work_store place w (suc zero) = AccessibleTo w.new
work_store place w (suc (suc zero)) = Marked place
work_store place w (suc (suc (suc zero))) = FailedTo Clear
work_store place w (suc (suc (suc (suc n)))) = NoteEmptied

-- after an event that made the note
abbrev pub FiveSteps : Type 0
FiveSteps =
    (d : Device) (e : Event) (w : Removal) → (rule d e).store ≡ Noted w
    → (s : Script) → calm s ≡ true → steps s ≤ 4
    → OnItsWay (work_store (place_of (see d w.element)) w) w (steps s) (after d (begin ▸ e ▸▸ s))

abbrev pub FifthEnds : Type 0
FifthEnds =
    (d : Device) (e : Event) (w : Removal) → (rule d e).store ≡ Noted w
    → (s : Script) → calm s ≡ true → steps s ≡ 4
    → (after d (begin ▸ e ▸▸ (s ▸ step))).cells.note ≡ Empty

-- ## Winding up

-- "A media error or a power cut while the note is full .. sets the position to the first winding-up step"
abbrev pub StopWinds : Type 0
StopWinds = (d : Device) (w : Removal) → d.cells.note ≡ Full w → (e : Event) → stops e ≡ true → ((told d e).number ≡ 0) × At Wind1 w (told d e).state

-- the list of winding up, to where it leads
abbrev pub wind_store : Lba → ℕ → Store
wind_store v zero = NativeTo v
wind_store v (suc zero) = AccessibleTo v
wind_store v (suc (suc zero)) = FailedTo Set
wind_store v (suc (suc (suc n))) = NoteEmptied

abbrev pub FourSteps : Type 0
FourSteps =
    (d : Device) (w : Removal) → At Wind1 w d
    → (s : Script) → calm s ≡ true → steps s ≤ 3
    → OnItsWay (wind_store (wound_up (after d s) w)) w (steps s) (after d s)

abbrev pub FourthEnds : Type 0
FourthEnds =
    (d : Device) (w : Removal) → At Wind1 w d
    → (s : Script) → calm s ≡ true → steps s ≡ 3
    → (after d (s ▸ step)).cells.note ≡ Empty
