-- Demand 3 in one statement: "From any accepted table, after any sequence of commands, work steps, grades, media errors, resets and power
-- cuts, a cut after any single store included: whenever no removal is under way, the removed elements are exactly those whose marking store
-- was made; both maximum addresses equal the one accepted with the latest such store, or the first if there was none; all else in the
-- table is as built, but for the last accepted grades. Undisturbed, a removal makes its marking store at the third step and ends at the
-- fifth. After a cut during a removal, four undisturbed steps bring that about."
use Rattle.std.specs.Prelude.{true, ◌≡◌}
use Rattle.cells.specs.declared.Note.TheVariants.{Empty, Full}
use Rattle.cells.specs.declared.Removal.{Removal}
use Rattle.conduct.specs.Promises.{AtMostOneCell}
use Rattle.device.specs.Machine.{Event, step}
use Rattle.device.specs.declared.Device.{Device}
use Rattle.history.specs.Progress.{calm, steps, Acceptance, Clearance, NotingStore, MarkingStore, SettingStore, FiveSteps, FifthEnds, stops, StopWinds, FourSteps, FourthEnds}
use Rattle.history.specs.Promise.{Promise, KeptByRuns}
use Rattle.history.specs.Runs.{Script, ◌▸◌, ◌▸▸◌, after, history, RunsAreScripts}
use Rattle.history.specs.Starts.{Startable, AcceptedStarts, CutStarts}

-- after a stop during a removal, and three undisturbed steps, the fourth brings the promise about
abbrev pub BroughtAbout : Type 0
BroughtAbout =
    (start : Device) → Startable start → (s : Script) (w : Removal) → (after start s).cells.note ≡ Full w → (e : Event) → stops e ≡ true
    → (t : Script) → calm t ≡ true → steps t ≡ 3
    → ((after start (s ▸ e ▸▸ (t ▸ step))).cells.note ≡ Empty)
    × Promise start (history start (s ▸ e ▸▸ (t ▸ step))) (after start (s ▸ e ▸▸ (t ▸ step)))

pub record Demand3 : Type 0 where
  -- "From any accepted table", and from any state that a cut leaves
  pub accepted_starts : AcceptedStarts
  pub cut_starts : CutStarts
  -- "after any sequence .. a cut after any single store included": the code's own runs are the scripts, and an event changes at most one cell
  pub runs_are_scripts : RunsAreScripts
  pub at_most_one_cell : AtMostOneCell
  -- "whenever no removal is under way"
  pub kept : (start : Device) → Startable start → (s : Script) → KeptByRuns start (history start s) (after start s)
  -- "the one accepted with the latest such store": what is accepted, and which events make these stores
  pub acceptance : Acceptance
  pub clearance : Clearance
  pub noting_store : NotingStore
  pub marking_store : MarkingStore
  -- "Undisturbed, a removal makes its marking store at the third step and ends at the fifth."
  pub five_steps : FiveSteps
  pub fifth_ends : FifthEnds
  -- "After a cut during a removal, four undisturbed steps bring that about."
  pub stop_winds : StopWinds
  pub four_steps : FourSteps
  pub fourth_ends : FourthEnds
  pub setting_store : SettingStore
  pub brought_about : BroughtAbout
