-- Request 2026-04 (tour/specs/Tour), of the code's own calls: a walk over a device that any run has left. What it does after a page is what
-- `walk::next` and `walk::next_request` promise (walk/specs/Promises, `GoesByNext`).
use Rattle.std.specs.Prelude.{ℕ, ◌≤◌, false, List, ◌≡◌, length}
use Rattle.calls.specs.Offered.{made_from}
use Rattle.conduct.specs.Fits.{Fits}
use Rattle.device.specs.declared.Device.{Device}
use Rattle.history.specs.Runs.{Script, Ran}
use Rattle.offer.specs.declared.Element.{Element}
use Rattle.paper.specs.Answers.{number_of}
use Rattle.paper.specs.Told.{said}
use Rattle.paper.specs.declared.Answer.{Answer}
use Rattle.request.specs.Requests.{refused}
use Rattle.request.specs.declared.Request.{Request}
use Rattle.slices.specs.Lists.{Every}
use Rattle.status.specs.Page.{list_of, page_of}
use Rattle.tour.specs.Tour.{requests_for, ListsWhole}
use Rattle.walk.specs.Walk.{Came, Round, ended, walk}
use Rattle.demands.specs.Runs.{AfterRuns, LeftBy}

-- ## "if nothing changes the device between"

-- every request that is not due 4 gets its page, over a buffer that has room, so that pages come for any walk (tour/specs/Tour, `AnyMix`)
abbrev pub LeavesPage : Type 0
LeavesPage = (x : Device) (q : Request) → refused q ≡ false → LeftBy x q (page_of x q)

-- the walk itself does not change the device
abbrev pub AskingLeaves : Type 0
AskingLeaves = (x : Device) (q : Request) (page : List ℕ) (c : LeftBy x q page) → c.after ≡ x

abbrev pub WalkedWhole : Type 0
WalkedWhole =
    AfterRuns (λ x.
    (q : Request) (cs : List Came) → Every (λ (r : Round). LeftBy x r.request r.page) (walk q cs).rounds
    → requests_for (length (list_of x q)) ≤ length cs → ListsWhole x q (walk q cs))

-- ## If something does

-- a page that the device left after some run
pub record LeftThen (d : Device) (r : Round) : Type 0 where
  pub script : Script
  pub numbers : List ℕ
  pub device : Device
  pub ran : Ran d script numbers device
  pub left : LeftBy device r.request r.page

-- it ends, within as many requests as the whole table takes
abbrev pub WalkedToEnd : Type 0
WalkedToEnd =
    (there : Device) (es : List Element) (limit : ℕ) (a : Answer) (d : Device) → (said a d ≡ made_from there es limit) × Fits d → number_of a ≡ 0
    → (q : Request) (cs : List Came) → Every (LeftThen d) (walk q cs).rounds → requests_for (length es) ≤ length cs
    → ((walk q cs).stand ≡ ended) × (length (walk q cs).rounds ≤ requests_for (length es))
