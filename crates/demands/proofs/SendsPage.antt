-- The data of a run is its page converted (specs/SendsPage): what 12h leaves is the page of the SCSI request's own fields, and that one,
-- converted, is what the writer lays at the front of its buffer.
use Prim.Native.Nat.{ℕ, ◌≤◌}
use mathlib.Core.Bool.{Bool, true, false, cond}
use mathlib.Core.List.{List}
use mathlib.Core.Path.{◌≡◌, refl, sym, ap, ◌∙◌}
use native.Mathlib.Omega.{arith}
use lib.ListN.{length, take}
use Rattle.std.proofs.Common.{Result, Ok, Err}
use Rattle.agreement.proofs.Agreement.{agrees}
use Rattle.calls.proofs.Once.{one-fits}
use Rattle.conduct.specs.Fits.{Fits}
use Rattle.convert.proofs.Outcomes.{or_clean}
use Rattle.convert.specs.Convert.{scsi_offence, heard, outcome, to_scsi}
use Rattle.device.specs.declared.Device.{Device}
use Rattle.exchange.proofs.Device.{sends_its_page}
use Rattle.exchange.proofs.Exchange.{or_both}
use Rattle.exchange.proofs.Lent.{laid-front, front, fits_in, converts}
use Rattle.paper.specs.Answers.{number_of}
use Rattle.paper.specs.Output.{output, wrote, written, written_of}
use Rattle.paper.specs.Told.{tells, said}
use Rattle.paper.specs.declared.Answer.TheVariants.{Done}
use Rattle.paper.specs.declared.Unwritten.TheVariants.{InvalidField, SmallBuffer}
use Rattle.paper.specs.declared.Unwritten.{Unwritten}
use Rattle.paper.specs.declared.Written.{Written}
use Rattle.query.proofs.Queries.{due_not, filter_asked, report_asked, unset_asked}
use Rattle.query.specs.Promises.{SameAsked}
use Rattle.query.specs.Queries.{due_four, asked_for}
use Rattle.query.specs.declared.Query.{Query}
use Rattle.reader.proofs.LayoutTheorem.{heard_clean}
use Rattle.reader.specs.Judgement.{header, read_of}
use Rattle.reader.specs.Page.{page_offence}
use Rattle.request.proofs.Requests.{accepted}
use Rattle.request.specs.Requests.{SameFields, refused}
use Rattle.request.specs.declared.Request.{Request}
use Rattle.sender.proofs.Sending.{sends_the_smaller}
use Rattle.sender.specs.Sent.{data_of}
use Rattle.status.proofs.Ignored.{page_same}
use Rattle.status.specs.Page.{header_of, page_of}
use Rattle.table.specs.Elements.{identifiers, ascending}
use Rattle.words.specs.declared.Order.TheVariants.{Little, Big}
use Rattle.demands.specs.SendsPage.{whole_size, SendsPage, WritesPage}
use Rattle.demands.proofs.LeftBy.{left-asked, left_page}
use Rattle.demands.proofs.Runs.{run-leaves}

-- ## Bytes that have room

module _ (bytes buf : List ℕ) (size : ℕ) (long : size ≡ length bytes) (room : size ≤ length buf) where
  sends : (due : Bool) → due ≡ false → (w : Written) (out : List ℕ)
      → said w.answer (output w.count out) ≡ cond due (tells 4 (output 0 buf)) (written bytes buf)
      → (number_of w.answer ≡ 0) × (w.count ≡ size) × (take size out ≡ bytes)
  sends due ok w out so =
      let told = so ∙ ap (λ (t : Bool). cond t (tells 4 (output 0 buf)) (written bytes buf)) ok in
      let one = one-fits.sending _ w.answer Done w.count size out (laid-front bytes buf) told (fits_in bytes buf size long room) in
      (ap number_of one.0, one.1, ap (take size) one.2 ∙ front bytes buf size long)

-- ## The page of a SCSI request with the same fields

module _ (d : Device) (r : Request) (asks : refused r ≡ false) (p : ℕ) (q : Query) (alike : SameAsked p q r) where
  low : (q.filter ≤ 1) × (q.report ≤ 1)
  low =
      let in_range = accepted r asks in
      (omega (arith, in_range.0, alike.filter), omega (arith, in_range.1, alike.report))

  not_four : due_four q ≡ false
  not_four = due_not q low.0 low.1

  same : SameFields r (asked_for p q)
  same =
      record {
        filter = alike.filter ∙ sym (filter_asked p q low.0 low.1);
        report = alike.report ∙ sym (report_asked p q low.0 low.1);
        pages = alike.pages;
        start = omega (arith, alike.start);
        reserved = (accepted r asks).3 ∙ sym (unset_asked p q);
      }

  page_asked : page_of d r ≡ page_of d (asked_for p q)
  page_asked = page_same r (asked_for p q) same d

  module _ (fits : Fits d) (asc : ascending 0 (identifiers d.table) ≡ true) where
    clean_too : scsi_offence (page_of d (asked_for p q)) (asked_for p q) ≡ Ok tt → scsi_offence (page_of d (asked_for p q)) r ≡ Ok tt
    clean_too clean =
        let page = page_of d (asked_for p q) in
        let read : read_of Little page r ≡ tells 0 (header (header_of d r)) = ap (λ (s : List ℕ). read_of Little s r) (sym page_asked) ∙ (agrees d r fits asc asks).0 in
        or_both _ _ (heard_clean Little page r _ (sym read)).0 (or_clean (page_offence Little page (asked_for p q)) _ clean).1

-- ## The whole

pub sends_page : SendsPage
sends_page there es limit a d made z s ns x ran r page left p q alike few room out c is_c wide allocation free sent w is_w enough space =
    let (fits, asc) = run-leaves there es limit a d made z s ns x ran in
    let asks = left-asked x r page left in
    let ok = not_four x r asks p q alike in
    let bytes : List ℕ = take allocation (data_of Big x q) in
    let long : whole_size x q ≡ length bytes = omega (arith, sends_the_smaller Big x q allocation, enough) in
    let (clean, is_bytes) = sends_its_page x q p allocation fits asc ok few enough in
    let is_turned : heard c out ≡ outcome (scsi_offence (page_of x (asked_for p q)) r) bytes room =
    is_c ∙ ap (λ (v : List ℕ). to_scsi v r room) (left_page x r page left ∙ page_asked x r asks p q alike)
    ∙ ap (λ (v : List ℕ). outcome (scsi_offence (page_of x (asked_for p q)) r) v room) is_bytes in
    let turns = converts bytes room (whole_size x q) long wide _ (clean_too x r asks p q alike fits asc clean) c out is_turned in
    let goes = sends bytes free (whole_size x q) long space (due_four q) ok w sent is_w in
    record { turns = turns.0; sends = (goes.0, goes.1); same = turns.1 ∙ sym goes.2 }

-- a count or a reason says what its answer and its count say, and where that is 0 it is the count
says_too : (b : Result ℕ Unwritten) (out : List ℕ) → said (written_of b).answer (output (written_of b).count out) ≡ wrote b out
says_too (Ok n) out = refl
says_too (Err why) out = refl

is_count : (b : Result ℕ Unwritten) (size : ℕ) → number_of (written_of b).answer ≡ 0 → (written_of b).count ≡ size → b ≡ Ok size
is_count (Ok n) size z e = ap (λ (k : ℕ). Ok k) e
is_count (Err InvalidField) size z e = absurd (omega (arith, z))
is_count (Err SmallBuffer) size z e = absurd (omega (arith, z))

pub writes_page : WritesPage
writes_page there es limit a d made z s ns x ran r page left p q alike few room out c is_c wide allocation free sent b is_b enough space =
    let all = sends_page there es limit a d made z s ns x ran r page left p q alike few room out c is_c wide allocation free sent (written_of b) (says_too b sent ∙ is_b) enough space in
    (is_count b (whole_size x q) all.sends.0 all.sends.1, all)
