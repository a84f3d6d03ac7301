-- Runs: the events that a device meets, the device after them, and what came of each.
use Rattle.std.specs.Prelude.{ℕ, List, [], ◌∷◌, ◌≡◌}
use Rattle.cells.specs.declared.Note.TheVariants.{Empty}
use Rattle.cells.specs.declared.Store.{Store}
use Rattle.conduct.specs.Promises.{ButPosition}
use Rattle.device.specs.Machine.{Event, command, step, media_error, power_cut, comreset, hardware_reset, software_reset, grade, rule, told}
use Rattle.device.specs.declared.Device.{Device}
use Rattle.paper.specs.Told.{tells}
use Rattle.paper.specs.declared.ElementId.{ElementId}

infixl 20 ◌▸◌
infixl 20 ◌▹◌
infixl 20 ◌▸▸◌
-- "any sequence of commands, work steps, grades, media errors, resets and power cuts", the latest last. An event makes at most one store
-- (conduct/specs/Promises, `AtMostOneCell`), so "a cut after any single store included" is a cut after any event.
pub data Script : Type 0 where
  begin : Script
  ◌▸◌ : Script → Event → Script

-- what demand 3 tells apart: a step, a media error or power cut, a grade, any other event
abbrev pub of_event : {A : Type 0} → A → A → (ElementId → ℕ → A) → A → Event → A
of_event steps stops grades other (command s x room) = other
of_event steps stops grades other step = steps
of_event steps stops grades other media_error = stops
of_event steps stops grades other power_cut = stops
of_event steps stops grades other comreset = other
of_event steps stops grades other hardware_reset = other
of_event steps stops grades other software_reset = other
of_event steps stops grades other (grade id h) = grades id h

-- one script after another
abbrev pub ◌▸▸◌ : Script → Script → Script
s ▸▸ begin = s
s ▸▸ (t ▸ e) = (s ▸▸ t) ▸ e

abbrev pub after : Device → Script → Device
after d begin = d
after d (s ▸ e) = (told (after d s) e).state

-- what came of an event: the number that it was answered, and the store that it made, if any
pub record Entry : Type 0 where
  pub event : Event
  pub answer : ℕ
  pub store : Store

pub data History : Type 0 where
  empty : History
  ◌▹◌ : History → Entry → History

abbrev pub entry : Device → Event → Entry
entry d e = record { event = e; answer = (told d e).number; store = (rule d e).store }

abbrev pub history : Device → Script → History
history d begin = empty
history d (s ▸ e) = history d s ▹ entry (after d s) e

-- ## Runs of the code

-- a chain of calls that keep their promises, each on the device that the one before it left; their numbers, the latest first. A call that answers a
-- and leaves y says that `said a y ≡ told x e`, which is `tells (number_of a) y ≡ told x e`
pub data Ran (d : Device) : Script → List ℕ → Device → Type 0 where
  none : Ran d begin [] d
  call : {s : Script} {ns : List ℕ} {x : Device} → Ran d s ns x → (e : Event) (n : ℕ) (y : Device) → tells n y ≡ told x e → Ran d (s ▸ e) (n ∷ ns) y

abbrev pub answers_in : History → List ℕ
answers_in empty = []
answers_in (past ▹ x) = x.answer ∷ answers_in past

-- such a chain leaves the device that the definitions speak of, and gave the answers of its history
abbrev pub RunsAreScripts : Type 0
RunsAreScripts = (d : Device) (s : Script) (ns : List ℕ) (x : Device) → Ran d s ns x → (x ≡ after d s) × (ns ≡ answers_in (history d s))

-- ## "Only the position in the step list is lost with power."

-- with an empty note the position is not looked at: whatever comes, the answers and the cells are the same
abbrev pub RestsAlike : Type 0
RestsAlike =
    (d x : Device) → ButPosition d x → d.cells.note ≡ Empty
    → (s : Script) → (answers_in (history d s) ≡ answers_in (history x s)) × ((after d s).cells ≡ (after x s).cells)
