-- What holds of the library that C links (crates/recorder/src/lib.rt), whatever bytes it is lent: demands 1 and 3, and that all that the demands say of the
-- code's own calls holds of its records. Each premise is what a call promises.
use Rattle.std.specs.Prelude.{ℕ, true, List, [], ◌∷◌, ◌≡◌, length}
use Rattle.cells.specs.declared.Note.TheVariants.{Empty}
use Rattle.conduct.specs.Fits.{Fits}
use Rattle.conduct.specs.Promises.{ButPosition}
use Rattle.device.specs.Machine.{Event, command, step, power_cut}
use Rattle.device.specs.declared.Device.{Device}
use Rattle.history.specs.Promise.{KeptByRuns}
use Rattle.history.specs.Runs.{Script, begin, ◌▸◌, after, history, Ran}
use Rattle.history.specs.Starts.{MadeOf}
use Rattle.image.specs.Calls.{told_of}
use Rattle.image.specs.Promises.{RefusalLeavesImage}
use Rattle.image.specs.Reading.{security_of, device_of}
use Rattle.image.specs.declared.Image.{Image}
use Rattle.offer.specs.Check.{good}
use Rattle.offer.specs.declared.Element.{Element}
use Rattle.paper.specs.Told.{tells}
use Rattle.paper.specs.declared.Registers.{Registers}
use Rattle.recorder.specs.Made.{made_in}
use Rattle.status.specs.Lent.{lent}
use Rattle.demands.specs.Runs.{AfterRuns}

-- ## The record and the device that it is

-- a chain of calls, each on the record that the one before it left; their numbers, the latest first
pub data RanIn (i : Image) : Script → List ℕ → Image → Type 0 where
  none : RanIn i begin [] i
  call : {s : Script} {ns : List ℕ} {x : Image} → RanIn i s ns x → (e : Event) (n : ℕ) (y : Image) → tells n y ≡ told_of x e → RanIn i (s ▸ e) (n ∷ ns) y

-- is one of the devices that the records are, with the same numbers
abbrev pub LibraryRuns : Type 0
LibraryRuns = (i : Image) (s : Script) (ns : List ℕ) (x : Image) → RanIn i s ns x → Ran (device_of i) s ns (device_of x)

-- 0 is answered exactly to the lists that document 01 accepts, and then the record is a device of that list, whatever was lent
abbrev pub LibraryStarts : Type 0
LibraryStarts =
    (there : Image) (es : List Element) (limit n : ℕ) (i : Image) → tells n i ≡ made_in there es limit
    → (n ≡ 0 → (good (length es) es limit ≡ true) × MadeOf es limit (device_of i)) × (good (length es) es limit ≡ true → n ≡ 0)

-- so what holds of each device that a run leaves (specs/Runs) holds of each record: what the demands say of the code's own calls
abbrev pub LibraryAfter : Type 1
LibraryAfter =
    (P : Device → Type 0) → AfterRuns P
    → (there : Image) (es : List Element) (limit : ℕ) (i : Image) → (tells 0 i ≡ made_in there es limit) × Fits (device_of i)
    → (s : Script) (ns : List ℕ) (x : Image) → RanIn i s ns x → P (device_of x)

-- ## Demand 3

-- a device that is made of C's own list keeps what demand 3 promises, whatever calls come
abbrev pub LibraryKeeps : Type 0
LibraryKeeps =
    (there : Image) (es : List Element) (limit : ℕ) (i : Image) → tells 0 i ≡ made_in there es limit
    → (s : Script) (ns : List ℕ) (x : Image) → RanIn i s ns x → KeptByRuns (device_of i) (history (device_of i) s) (device_of x)

-- "Only the position in the step list is lost with power": a record with another number there is the device but for the position, which a cut forgets
-- (conduct/specs/Promises, `CutForgets`; history/specs/Runs, `RestsAlike`)
abbrev pub placed_at : ℕ → Image → Image
placed_at n i =
    record {
      parts = i.parts;
      native = i.native;
      accessible = i.accessible;
      old = i.old;
      new = i.new;
      element = i.element;
      count = i.count;
      limit = i.limit;
      full = i.full;
      failed = i.failed;
      position = n;
      healths = i.healths;
    }

abbrev pub LibraryForgets : Type 0
LibraryForgets = (i : Image) (n : ℕ) → ButPosition (device_of i) (device_of (placed_at n i))

-- "After power came back: a cut, and steps until 10": whatever bytes are there, four steps are enough
abbrev pub LibraryRests : Type 0
LibraryRests = (i : Image) → (after (device_of i) (begin ▸ power_cut ▸ step ▸ step ▸ step ▸ step)).cells.note ≡ Empty

-- ## Demand 1: a refusal leaves every byte of the record and of the buffer

abbrev pub RefusedCommandLeaves : Type 0
RefusedCommandLeaves =
    (i : Image) (state : ℕ) (r : Registers) (buf : List ℕ) → ((told_of i (command (security_of state) r (length buf))).number ≡ 0 → ⊥)
    → ((told_of i (command (security_of state) r (length buf))).state ≡ i) × (lent (device_of i) (security_of state) r buf ≡ buf)

abbrev pub RefusedListLeavesImage : Type 0
RefusedListLeavesImage = (i : Image) (es : List Element) (limit : ℕ) → ((made_in i es limit).number ≡ 0 → ⊥) → (made_in i es limit).state ≡ i

-- of every call that changes what C lends; the pages, the data, the texts and the conversions promise by the same definitions as the calls of
-- `Demand1`
pub record LibraryRefuses : Type 0 where
  pub changing : RefusalLeavesImage
  pub command : RefusedCommandLeaves
  pub making : RefusedListLeavesImage
