-- "The reader .. gives back what was written", of the code's own calls.
use Rattle.std.specs.Prelude.{ℕ, ◌<◌, ◌≤◌, List, ◌≡◌, get_or, Some}
use Rattle.device.specs.declared.Device.{Device}
use Rattle.listing.specs.Listing.{judged}
use Rattle.paper.specs.Told.{tells}
use Rattle.reader.specs.Judgement.{header, read_of, slot_of}
use Rattle.request.specs.Requests.{filter_of, report_type_of, pages_of, start_of}
use Rattle.request.specs.declared.Request.{Request}
use Rattle.status.specs.Page.{list_of, header_of}
use Rattle.table.specs.Elements.{blank_part}
use Rattle.view.specs.Shown.{shown_of}
use Rattle.words.specs.declared.Order.TheVariants.{Little}
use Rattle.demands.specs.Runs.{AfterRuns, LeftBy}

-- a page, as the answer of a device to a request
pub record GivenBack (d : Device) (q : Request) (page : List ℕ) : Type 0 where
  -- the reader takes it, with the header's numbers,
  pub taken : read_of Little page q ≡ tells 0 (header (header_of d q))
  -- has each listed element at its place,
  pub elements : (k : ℕ) → k < (header_of d q).returned → slot_of Little page k ≡ Some (get_or (list_of d q) k (shown_of blank_part 0))
  -- and the listing accepts it as "an answer to filter 0, report type 0, start 0", up to 65,536 bytes
  pub listed : filter_of q ≡ 0 → report_type_of q ≡ 0 → start_of q ≡ 0 → pages_of q ≤ 128 → judged page ≡ tells 0 (header (header_of d q))

abbrev pub GivesBack : Type 0
GivesBack = AfterRuns (λ x. (q : Request) (page : List ℕ) → LeftBy x q page → GivenBack x q page)
