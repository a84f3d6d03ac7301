-- "Converting there and back yields the same elements and header numbers", of the code's own calls. Each is a statement; proofs/ has the proof
-- under the same name in lower case. Its premises are what the calls promise (convert/src), the first of them answered 0; that the code's slices
-- hold bytes, and a start has 32 bits; that the SCSI request asks as the page's; and that there is room.
use Rattle.std.specs.Prelude.{ℕ, ◌+◌, ◌*◌, ◌^◌, ◌≤◌, ◌<◌, List, ◌≡◌, length, take, Result, Ok}
use Rattle.convert.specs.Convert.{heard, to_scsi, to_ata}
use Rattle.convert.specs.declared.Refusal.{Refusal}
use Rattle.layout.specs.Bytes.{header_in}
use Rattle.offences.specs.Checks.{base_of}
use Rattle.query.specs.Queries.{asked_for}
use Rattle.query.specs.declared.Query.{Query}
use Rattle.reader.specs.Judgement as page
use Rattle.request.specs.declared.Request.{Request}
use Rattle.scsi.specs.Judgement as scsi
use Rattle.words.specs.declared.Order.TheVariants.{Little, Big}
use Rattle.exchange.specs.Exchange.{Bytes, PageHolds, DataHolds, AsksAs, with_pages}

-- from a page: `to_scsi`, and `to_ata` of what that left, for pages that the list fits
abbrev pub PageTurnedBack : Type 0
PageTurnedBack =
    (s : List ℕ) (q : Request) (room out : List ℕ) (size : ℕ) → Bytes s → heard (Ok size) out ≡ to_scsi s q room
    → (r : Query) (p : ℕ) (space back : List ℕ) (c : Result ℕ Refusal) → AsksAs q r → heard c back ≡ to_ata (take size out) r p space
    → (header_in Little s).number + 1 ≤ 16 * p → 512 * p ≤ length space
    → (c ≡ Ok (512 * p)) × PageHolds (take (512 * p) back) (with_pages p q) (header_in Little s) (page.slot_of Little s)

-- from data: `to_ata`, and `to_scsi` of what that left
abbrev pub DataTurnedBack : Type 0
DataTurnedBack =
    (s : List ℕ) (r : Query) (p : ℕ) (room out : List ℕ) (size : ℕ) → Bytes s → r.start.0 < 2 ^ 32 → heard (Ok size) out ≡ to_ata s r p room
    → (space back : List ℕ) (c : Result ℕ Refusal) → heard c back ≡ to_scsi (take size out) (asked_for p r) space → base_of (header_in Big s).number ≤ length space
    → (c ≡ Ok (base_of (header_in Big s).number))
    × DataHolds (take (base_of (header_in Big s).number) back) r (header_in Big s) (scsi.slot_of Big s)
