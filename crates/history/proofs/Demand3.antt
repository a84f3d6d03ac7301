-- Demand 3, put together.
use mathlib.Core.Path.{◌≡◌}
use Rattle.cells.specs.declared.Note.TheVariants.{Empty}
use Rattle.conduct.proofs.OneCell.{at_most_one_cell}
use Rattle.device.specs.Machine.{step}
use Rattle.history.specs.Demand3.{BroughtAbout, Demand3}
use Rattle.history.specs.Runs.{◌▸◌, ◌▸▸◌, after}
use Rattle.history.proofs.Events.{acceptance, clearance, noting_store, marking_store, setting_store}
use Rattle.history.proofs.Progress.{five_steps, fifth_ends, stop_winds, four_steps, fourth_ends, fourth_after}
use Rattle.history.proofs.Promise.{kept, cut_starts}
use Rattle.history.proofs.Runs.{runs_are_scripts}
use Rattle.history.proofs.Starts.{accepted_starts}

brought_about : BroughtAbout
brought_about start can s w n e q t c k =
    let rest : (after start (s ▸ e ▸▸ (t ▸ step))).cells.note ≡ Empty = fourth_after start s w n e q t c k in
    (rest, (kept start can (s ▸ e ▸▸ (t ▸ step))).at_rest rest)

pub demand_3 : Demand3
demand_3 = record {
  accepted_starts = accepted_starts;
  cut_starts = cut_starts;
  runs_are_scripts = runs_are_scripts;
  at_most_one_cell = at_most_one_cell;
  kept = kept;
  acceptance = acceptance;
  clearance = clearance;
  noting_store = noting_store;
  marking_store = marking_store;
  five_steps = five_steps;
  fifth_ends = fifth_ends;
  stop_winds = stop_winds;
  four_steps = four_steps;
  fourth_ends = fourth_ends;
  setting_store = setting_store;
  brought_about = brought_about;
}
