-- A walk over what runs leave (specs/Walks): the pages are those that the device fills, and a run leaves its table.
use Prim.Native.Nat.{ℕ, ◌≤◌}
use mathlib.Core.Path.{◌≡◌, sym, ap, subst⁻¹, ◌∙◌}
use lib.ListN.{length, length-map}
use Rattle.device.specs.declared.Device.{Device}
use Rattle.history.proofs.Places.{table_kept}
use Rattle.history.proofs.Runs.{runs_are_scripts}
use Rattle.history.specs.Starts.{MadeOf}
use Rattle.offer.specs.Elements.{part_of}
use Rattle.slices.proofs.Lists.{every_so}
use Rattle.table.specs.Elements.{live, size}
use Rattle.table.specs.declared.Part.{Part}
use Rattle.tour.proofs.Changed.{ends_anyway}
use Rattle.tour.proofs.Tour.{walks_whole}
use Rattle.tour.specs.Tour.{Shows, requests_for, ShowsThen}
use Rattle.walk.specs.Walk.{Round, ended, walk}
use Rattle.demands.specs.Runs.{LeftBy}
use Rattle.demands.specs.Walks.{LeavesPage, AskingLeaves, WalkedWhole, LeftThen, WalkedToEnd}
use Rattle.demands.proofs.LeftBy.{left-asked, left_page, left_device, leaves}
use Rattle.demands.proofs.Runs.{run-leaves}
use Rattle.demands.proofs.Starts.{listed_starts}

pub leaves_page : LeavesPage
leaves_page = leaves

pub asking_leaves : AskingLeaves
asking_leaves = left_device

left-shows : (x : Device) (r : Round) → LeftBy x r.request r.page → Shows x r
left-shows x r left = record { asked = left-asked x r.request r.page left; page = left_page x r.request r.page left }

pub walked_whole : WalkedWhole
walked_whole there es limit a d made z s ns x ran q cs left =
    let (fits, asc) = run-leaves there es limit a d made z s ns x ran in
    walks_whole x fits asc q cs (every_so (λ (r : Round). LeftBy x r.request r.page) (Shows x) (left-shows x) (walk q cs).rounds left)

pub walked_to_end : WalkedToEnd
walked_to_end there es limit a d made z q cs left =
    subst⁻¹ (λ (n : ℕ). requests_for n ≤ length cs → ((walk q cs).stand ≡ ended) × (length (walk q cs).rounds ≤ requests_for n)) long
    (ends_anyway d.table start.startable.ids q cs (every_so (LeftThen d) (ShowsThen d.table) shows_then (walk q cs).rounds left))
  where
    start : MadeOf es limit d
    start = ((listed_starts there es limit a d made.0).0 z).1

    long : length es ≡ size d.table
    long = sym (length-map (live d.table) (λ (p : Part). p.id.0) ∙ ap length start.parts ∙ length-map es part_of)

    shows_then : (r : Round) → LeftThen d r → ShowsThen d.table r
    shows_then r then =
        record {
          device = then.device;
          fits = (run-leaves there es limit a d made z then.script then.numbers then.device then.ran).0;
          same = ap (λ (x : Device). x.table) (runs_are_scripts d then.script then.numbers then.device then.ran).0 ∙ table_kept d then.script;
          shows = left-shows then.device r then.left;
        }
