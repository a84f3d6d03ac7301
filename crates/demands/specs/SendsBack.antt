-- "The reader .. gives back what was written", of the data for a SCSI host. Its last premises are what `send` promises, answered 0, and that
-- the header was not cut.
use Rattle.std.specs.Prelude.{ℕ, ◌<◌, ◌≤◌, List, ◌≡◌, length, get_or, take, Some}
use Rattle.device.specs.declared.Device.{Device}
use Rattle.docklist.specs.Docklist.{judged}
use Rattle.paper.specs.Answers.{number_of}
use Rattle.paper.specs.Output.{output}
use Rattle.paper.specs.Told.{tells, said}
use Rattle.paper.specs.declared.Answer.{Answer}
use Rattle.query.specs.Queries.{asked, plain}
use Rattle.query.specs.declared.Query.{Query}
use Rattle.scsi.specs.Data.{whole_of, torn_of}
use Rattle.scsi.specs.Judgement.{Values, reading, read_of, slot_of}
use Rattle.status.specs.Page.{list_of}
use Rattle.sender.specs.Sent.{sent_header, sent}
use Rattle.table.specs.Elements.{blank_part}
use Rattle.view.specs.Shown.{shown_of}
use Rattle.words.specs.declared.Order.TheVariants.{Big}
use Rattle.demands.specs.Runs.{AfterRuns}

-- of the list that a device has for a request, how many whole elements are there in so many bytes
abbrev pub whole_in : Device → Query → ℕ → ℕ
whole_in d q size = whole_of (sent_header d q).number size

-- the header's numbers, and what of the list is there
abbrev pub reading_in : Device → Query → ℕ → Values
reading_in d q size = reading (sent_header d q) (whole_in d q size) (torn_of (sent_header d q).number size)

-- data, as the answer of a device to a request, cut or not
pub record SentBack (d : Device) (q : Query) (bytes : List ℕ) : Type 0 where
  -- the reader takes it,
  pub taken : read_of Big bytes q ≡ tells 0 (reading_in d q (length bytes))
  -- has each whole element at its place,
  pub elements : (k : ℕ) → k < whole_in d q (length bytes) → slot_of Big bytes k ≡ Some (get_or (list_of d (asked q)) k (shown_of blank_part 0))
  -- and the listing accepts it, as the answer to its own request
  pub listed : q ≡ plain → judged bytes ≡ tells 0 (reading_in d q (length bytes))

abbrev pub SendsBack : Type 0
SendsBack =
    AfterRuns (λ x.
    (q : Query) (allocation : ℕ) (buf out : List ℕ) (b : Answer) (count : ℕ)
    → said b (output count out) ≡ sent x q allocation buf → number_of b ≡ 0 → 32 ≤ count
    → SentBack x q (take count out))
