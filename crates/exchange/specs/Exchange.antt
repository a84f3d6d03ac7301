-- Request 2026-03: "Converting there and back yields the same elements and header numbers". Each is a statement; proofs/ has the proof under
-- the same name in lower case.
use Rattle.std.specs.Prelude.{ℕ, ◌+◌, ◌*◌, ◌^◌, ◌≤◌, ◌<◌, true, false, List, ◌≡◌, take, Option, Ok}
use Rattle.conduct.specs.Fits.{Fits}
use Rattle.convert.specs.Convert.{turned, paged, scsi_offence, ata_offence}
use Rattle.device.specs.declared.Device.{Device}
use Rattle.layout.specs.Bytes.{header_in}
use Rattle.layout.specs.declared.Descriptor.{Descriptor}
use Rattle.layout.specs.declared.Header.{Header}
use Rattle.offences.specs.Checks.{base_of}
use Rattle.paper.specs.Told.{tells}
use Rattle.query.specs.Queries.{due_four, asked_for}
use Rattle.query.specs.declared.Query.{Query}
use Rattle.reader.specs.Judgement as page
use Rattle.request.specs.Requests.{filter_of, report_type_of, start_of}
use Rattle.request.specs.declared.Request.{Request}
use Rattle.scsi.specs.Judgement as scsi
use Rattle.slices.specs.Lists.{Every}
use Rattle.status.specs.Page.{page_of}
use Rattle.sender.specs.Sent.{sent_header, data_of}
use Rattle.table.specs.Elements.{identifiers, ascending}
use Rattle.words.specs.declared.Order.TheVariants.{Little, Big}

-- what the code's slices hold
abbrev pub Bytes : List ℕ → Type 0
Bytes s = Every (λ (b : ℕ). b < 256) s

-- ## What is read of a page, and of data that is not cut: these header numbers, and these elements

pub record PageHolds (s : List ℕ) (q : Request) (h : Header) (slots : ℕ → Option Descriptor) : Type 0 where
  pub taken : page.read_of Little s q ≡ tells 0 (page.header h)
  pub elements : (k : ℕ) → page.slot_of Little s k ≡ slots k

pub record DataHolds (s : List ℕ) (r : Query) (h : Header) (slots : ℕ → Option Descriptor) : Type 0 where
  pub taken : scsi.read_of Big s r ≡ tells 0 (scsi.reading h h.number false)
  pub elements : (k : ℕ) → scsi.slot_of Big s k ≡ slots k

-- ## One way

-- a SCSI request with an ATA request's filter and report type, and a start that is not above
pub record AsksAs (q : Request) (r : Query) : Type 0 where
  pub filter : filter_of q ≡ r.filter
  pub report : report_type_of q ≡ r.report
  pub start : r.start.0 ≤ start_of q

-- a page that is converted is read as SCSI data: the same elements and header numbers
abbrev pub PageToData : Type 0
PageToData =
    (s : List ℕ) (q : Request) (r : Query) → Bytes s → AsksAs q r → scsi_offence s q ≡ Ok tt
    → DataHolds (turned Little Big s) r (header_in Little s) (page.slot_of Little s)

-- data that is converted is read as a page
abbrev pub DataToPage : Type 0
DataToPage =
    (s : List ℕ) (r : Query) (p : ℕ) → Bytes s → ata_offence s r p ≡ Ok tt
    → PageHolds (paged p s) (asked_for p r) (header_in Big s) (scsi.slot_of Big s)

-- ## "there and back"

-- the same request with another count of pages
abbrev pub with_pages : ℕ → Request → Request
with_pages p q = record { feature = q.feature; count = record { 0 = p }; lba = q.lba }

-- from a page, for any pages that its list fits, and whichever such SCSI request it goes by
abbrev pub ThereAndBack : Type 0
ThereAndBack =
    (s : List ℕ) (q : Request) (r : Query) (p : ℕ) → Bytes s → AsksAs q r → scsi_offence s q ≡ Ok tt → (header_in Little s).number + 1 ≤ 16 * p
    → (ata_offence (turned Little Big s) r p ≡ Ok tt)
    × PageHolds (paged p (turned Little Big s)) (with_pages p q) (header_in Little s) (page.slot_of Little s)

-- and from data
abbrev pub BackAndThere : Type 0
BackAndThere =
    (s : List ℕ) (r : Query) (p : ℕ) → Bytes s → r.start.0 < 2 ^ 32 → ata_offence s r p ≡ Ok tt
    → (scsi_offence (paged p s) (asked_for p r) ≡ Ok tt)
    × DataHolds (turned Little Big (paged p s)) r (header_in Big s) (scsi.slot_of Big s)

-- ## Of a device: its SCSI data is its page converted, where neither is cut

abbrev pub SendsItsPage : Type 0
SendsItsPage =
    (d : Device) (q : Query) (p a : ℕ) → Fits d → ascending 0 (identifiers d.table) ≡ true → due_four q ≡ false
    → (sent_header d q).number + 1 ≤ 16 * p → base_of (sent_header d q).number ≤ a
    → (scsi_offence (page_of d (asked_for p q)) (asked_for p q) ≡ Ok tt) × (turned Little Big (page_of d (asked_for p q)) ≡ take a (data_of Big d q))
