-- Demand 3 (history/specs/Demand3), of the code's own calls: "From any accepted table", made of the caller's own list, whatever was lent.
use Rattle.std.specs.Prelude.{ℕ, true, List, ◌≡◌, length}
use Rattle.calls.specs.Offered.{made_from}
use Rattle.conduct.specs.Promises.{Tidy}
use Rattle.device.specs.declared.Device.{Device}
use Rattle.history.specs.Promise.{KeptByRuns}
use Rattle.history.specs.Runs.{Script, history, Ran}
use Rattle.history.specs.Starts.{MadeOf}
use Rattle.offer.specs.Check.{good}
use Rattle.offer.specs.declared.Element.{Element}
use Rattle.paper.specs.Answers.{number_of}
use Rattle.paper.specs.Told.{said}
use Rattle.paper.specs.declared.Answer.{Answer}

-- 0 is answered exactly to the lists that document 01 accepts, and whoever is answered 0 has such a device
abbrev pub ListedStarts : Type 0
ListedStarts =
    (there : Device) (es : List Element) (limit : ℕ) (a : Answer) (d : Device) → said a d ≡ made_from there es limit
    → (number_of a ≡ 0 → (good (length es) es limit ≡ true) × MadeOf es limit d) × (good (length es) es limit ≡ true → number_of a ≡ 0)

-- and whatever calls come then, the device keeps what demand 3 promises: "whenever no removal is under way .."
abbrev pub ListedKeeps : Type 0
ListedKeeps =
    (there : Device) (es : List Element) (limit : ℕ) (a : Answer) (d : Device) → said a d ≡ made_from there es limit → number_of a ≡ 0
    → (s : Script) (ns : List ℕ) (x : Device) → Ran d s ns x → KeptByRuns d (history d s) x

-- a new device is tidy, as every device that runs on from it (conduct/specs/Promises, `KeepsTidy`)
abbrev pub ListedTidy : Type 0
ListedTidy = (there : Device) (es : List Element) (limit : ℕ) → (made_from there es limit).number ≡ 0 → Tidy (made_from there es limit).state
