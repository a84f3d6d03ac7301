-- The ledger: what demand 3 speaks of, read off the events, answers and stores of a history, and never off a device but the first.
use Rattle.std.specs.Prelude.{ℕ, Bool, cond, ◌&&◌, ◌||◌, eqb}
use Rattle.cells.specs.Cells.{is_set}
use Rattle.cells.specs.Sights.{gone}
use Rattle.device.specs.Machine.{Event}
use Rattle.device.specs.Record.{health_at, see, wound_up}
use Rattle.device.specs.declared.Device.{Device}
use Rattle.cells.specs.declared.Mark.{Mark}
use Rattle.cells.specs.declared.Note.TheVariants.{Empty, Full}
use Rattle.cells.specs.declared.Note.{Note}
use Rattle.cells.specs.declared.Removal.{Removal}
use Rattle.cells.specs.declared.Store.TheVariants.{Nothing, NativeTo, AccessibleTo, Marked, Graded, FailedTo, Noted, NoteEmptied}
use Rattle.cells.specs.declared.Store.{Store}
use Rattle.table.specs.Elements.{identifier_at}
use Rattle.table.specs.declared.Table.{Table}
use Rattle.history.specs.Runs.{of_event, History, empty, ◌▹◌}

-- what the ledger reads of a store: the place that it marks, the removal that it notes, the failed mark that it sets; of any other, nothing
abbrev pub of_store : {A : Type 0} → (ℕ → A) → (Removal → A) → (Mark → A) → A → Store → A
of_store marks notes fails nothing Nothing = nothing
of_store marks notes fails nothing (NativeTo v) = nothing
of_store marks notes fails nothing (AccessibleTo v) = nothing
of_store marks notes fails nothing (Marked place) = marks place
of_store marks notes fails nothing (Graded place h) = nothing
of_store marks notes fails nothing (FailedTo m) = fails m
of_store marks notes fails nothing (Noted w) = notes w
of_store marks notes fails nothing NoteEmptied = nothing

-- ## "those whose marking store was made"

-- a store names a place of the table, which is as built
abbrev pub marked_by : Table → Store → ℕ → Bool → Bool
marked_by t x id before = of_store (λ place. eqb (identifier_at t place) id || before) (λ w. before) (λ m. before) before x

-- an element at FFh at the start counts as marked; a new device has none
abbrev pub marked : Device → History → ℕ → Bool
marked start empty id = gone (see start (record { 0 = id }))
marked start (past ▹ x) id = marked_by start.table x.store id (marked start past id)

-- ## "the one accepted with the latest such store, or the first if there was none"

abbrev pub accepted_by : Store → ℕ → ℕ
accepted_by x before = of_store (λ place. before) (λ w. w.new.0) (λ m. before) before x

-- the new maximum of the latest acceptance
abbrev pub accepted : History → ℕ
accepted empty = 0
accepted (past ▹ x) = accepted_by x.store (accepted past)

abbrev pub address_by : Store → ℕ → ℕ → ℕ
address_by x new before = of_store (λ place. new) (λ w. before) (λ m. before) before x

-- the first: where the start is, or is wound up to
abbrev pub first_address : Device → Note → ℕ
first_address d Empty = d.cells.native.0
first_address d (Full w) = (wound_up d w).0

abbrev pub address : Device → History → ℕ
address start empty = first_address start start.cells.note
address start (past ▹ x) = address_by x.store (accepted past) (address start past)

-- ## "the last accepted grades"

abbrev pub graded_by : Event → ℕ → ℕ → ℕ → ℕ
graded_by e answer id before = of_event before before (λ i h. cond (eqb answer 0 && eqb i.0 id) h before) before e

-- the last accepted grade of an element, or its health as built
abbrev pub grade_in : History → ℕ → ℕ → ℕ
grade_in empty id built = built
grade_in (past ▹ x) id built = graded_by x.event x.answer id (grade_in past id built)

-- the health of a place as the history has it: FFh if its element is marked, else the last accepted grade
abbrev pub recorded : Device → History → ℕ → ℕ
recorded start h place =
    let id : ℕ = identifier_at start.table place in
    cond (marked start h id) 0xFF (grade_in h id (health_at start place))

-- ## The failed mark: set exactly if winding-up step 3, which alone sets it (Progress, `SettingStore`), came after the last clearing store

abbrev pub failed_by : Store → Bool → Bool
failed_by x before = of_store (λ place. before) (λ w. before) is_set before x

abbrev pub failed_in : Device → History → Bool
failed_in start empty = is_set start.cells.failed
failed_in start (past ▹ x) = failed_by x.store (failed_in start past)
