-- A page that is converted is read as SCSI data, data as a page, and there and back (specs/Exchange): what a conversion keeps is all that the
-- readers look at.
use Prim.Native.Nat.{ℕ, ◌+◌, ◌-◌, ◌*◌, ◌≤◌, ◌<◌}
use mathlib.Core.Bool.{Bool, true, false, cond}
use mathlib.Core.List.{List, [], ◌++◌, append-nil}
use mathlib.Core.Path.{◌≡◌, refl, sym, ap, ◌∙◌, subst}
use native.Mathlib.Omega.{arith}
use lib.Dec.{eqb, ltb}
use lib.ListN.{length, get_or, replicate, length-append, length-replicate, get_or-replicate}
use lib.Seq.{get_or-append-add}
use borrow.Author.Tests.{eqb-true, le-ltb, le-leb, eq-eqb}
use Rattle.std.proofs.Common.{None, Some, Ok, Result}
use Rattle.std.specs.Prelude.{⊤}
use Rattle.convert.proofs.Outcomes.{unless_clean, or_clean, fits_clean, turned-laid, length-turned}
use Rattle.convert.specs.Convert.{list_in, turned, paged, scsi_offence, fits_pages, ata_offence}
use Rattle.layout.specs.Bytes.{header_in, laid, returned_of}
use Rattle.layout.specs.declared.Header.{Header}
use Rattle.offences.specs.Checks.{base_of, descriptor_at, last_before}
use Rattle.offences.specs.First.{unless, ◌or_else◌}
use Rattle.offences.specs.declared.Offence.{Offence}
use Rattle.paper.specs.Told.{tells}
use Rattle.query.proofs.Queries.{filter_asked, report_asked, not-refused, start_asked}
use Rattle.query.specs.Queries.{asked_for, asked}
use Rattle.query.specs.declared.Query.{Query}
use Rattle.reader.proofs.LayoutTheorem as page·theorem
use Rattle.reader.proofs.Taken as page·taken
use Rattle.reader.proofs.Taken.{Listed}
use Rattle.reader.specs.Judgement as page
use Rattle.reader.specs.Layout.{Asked}
use Rattle.reader.specs.Page.{page_offence}
use Rattle.request.specs.Requests.{filter_of, report_type_of, pages_of, start_of}
use Rattle.request.specs.declared.Request.{Request}
use Rattle.scsi.proofs.Slots.{slots_alike}
use Rattle.scsi.proofs.LayoutTheorem as scsi·theorem
use Rattle.scsi.proofs.Taken as scsi·taken
use Rattle.scsi.specs.Data.{whole_of, torn_of, data_offence}
use Rattle.scsi.specs.Judgement as scsi
use Rattle.words.specs.declared.Order.TheVariants.{Little, Big}
use Rattle.exchange.specs.Exchange.{PageHolds, DataHolds, AsksAs, PageToData, DataToPage, with_pages, ThereAndBack, BackAndThere}
use Rattle.exchange.proofs.Kept.{FitsIn, bytes_fit, listed_as, header_kept, descriptor_kept, fits_kept, list_kept}

-- ## A page as data

module _ (s : List ℕ) (q : Request) (r : Query) (n : ℕ) (is_n : (header_in Little s).number ≡ n) (fits : FitsIn Little s n) (alike : AsksAs q r) (clean : scsi_offence s q ≡ Ok tt) where
  abbrev data_of : List ℕ
  data_of = turned Little Big s

  data_laid : laid Big (header_in Little s) (list_in Little s n) ++ [] ≡ data_of
  data_laid = append-nil _ ∙ ap (λ (m : ℕ). laid Big (header_in Little s) (list_in Little s m)) (sym is_n) ∙ turned-laid Little Big s

  both : (page_offence Little s q ≡ Ok tt) × (unless (eqb (header_in Little s).returned (header_in Little s).number) 4 ≡ Ok tt)
  both = or_clean (page_offence Little s q) _ clean

  returned : (header_in Little s).returned ≡ n
  returned = eqb-true _ _ (unless_clean _ 4 both.1) ∙ is_n

  was : page·taken.Taken Little s q
  was = page·taken.taken Little s q (ap (λ (f : Result ⊤ Offence). (page.answer_of f (header_in Little s)).number) both.0)

  long : length data_of ≡ base_of n
  long = length-turned Little Big s ∙ ap base_of is_n

  data_header : header_in Big data_of ≡ header_in Little s
  data_header = ap (header_in Big) (sym data_laid) ∙ header_kept Little Big s n fits []

  data_number : (header_in Big data_of).number ≡ n
  data_number = ap (λ (h : Header). h.number) data_header ∙ is_n

  data_descriptor : (k : ℕ) → k < n → descriptor_at Big data_of k ≡ descriptor_at Little s k
  data_descriptor k l = ap (λ (t : List ℕ). descriptor_at Big t k) (sym data_laid) ∙ descriptor_kept Little Big s n fits [] k l

  whole : whole_of n (length data_of) ≡ n
  whole = omega (arith, long)

  fields : (r.filter ≤ 1) × (r.report ≤ 1)
  fields = (subst (λ (x : ℕ). x ≤ 1) alike.filter was.asked.0, subst (λ (x : ℕ). x ≤ 1) alike.report was.asked.1)

  data_list : (x : Request) → filter_of x ≡ filter_of q → report_type_of x ≡ report_type_of q → start_of x ≤ start_of q
      → (k : ℕ) → k < n → Listed x (last_before Big data_of k) (descriptor_at Big data_of k)
  data_list x same_filter same_type not_above k l =
      subst (λ (t : List ℕ). Listed x (last_before Big t k) (descriptor_at Big t k)) data_laid
      (list_kept Little Big s n fits [] x (λ j h. listed_as q x same_filter same_type not_above _ _ (was.list j (rw returned h))) k l)

  asked_list : (k : ℕ) → k < n → Listed (asked r) (last_before Big data_of k) (descriptor_at Big data_of k)
  asked_list =
      data_list (asked r) (filter_asked 0 r fields.0 fields.1 ∙ sym alike.filter) (report_asked 0 r fields.0 fields.1 ∙ sym alike.report)
      (omega (arith, alike.start))

  keeps : scsi·taken.Taken Big data_of r
  keeps =
      record {
        there = omega (arith, long);
        fields = fields;
        returned = ap (λ (h : Header). h.returned) data_header ∙ returned ∙ sym data_number;
        list = λ k l. asked_list k (rw (data_number, whole) at l);
        most = rw data_number (omega (arith, long));
      }

  torn : torn_of n (length data_of) ≡ false
  torn = rw (long, le-ltb (base_of n) (base_of n) (omega arith))

  as_data : DataHolds data_of r (header_in Little s) (page.slot_of Little s)
  as_data =
      record {
        taken =
            scsi·taken.takes Big data_of r keeps
            ∙ (λ i. tells 0 (scsi.reading (data_header i) (whole_of (data_number i) (length data_of)) (torn_of (data_number i) (length data_of))))
            ∙ (λ i. tells 0 (scsi.reading (header_in Little s) (whole i) (torn i)))
            ∙ ap (λ (m : ℕ). tells 0 (scsi.reading (header_in Little s) m false)) (sym is_n);
        elements = λ k.
            slots_alike (whole_of (header_in Big data_of).number (length data_of)) n (ap (λ (m : ℕ). whole_of m (length data_of)) data_number ∙ whole)
            (descriptor_at Big data_of k) (descriptor_at Little s k) k (data_descriptor k)
            ∙ ap (λ (m : ℕ). cond (ltb k m) (Some (descriptor_at Little s k)) None) (sym returned);
      }

  data_fits : FitsIn Big data_of n
  data_fits = subst (λ (t : List ℕ). FitsIn Big t n) data_laid (fits_kept Little Big s n fits [])

  data_clean : data_offence Big data_of r ≡ Ok tt
  data_clean = (scsi·theorem.heard_clean Big data_of r _ _ _ (sym as_data.taken)).0

pub page_to_data : PageToData
page_to_data s q r bytes alike clean = as_data s q r (header_in Little s).number refl (bytes_fit Little s (header_in Little s).number bytes) alike clean

-- ## Data as a page

module _ (s : List ℕ) (r : Query) (p n : ℕ) (is_n : (header_in Big s).number ≡ n) (fits : FitsIn Big s n) (clean : ata_offence s r p ≡ Ok tt) where
  abbrev page_of : List ℕ
  page_of = paged p s

  abbrev zeros : List ℕ
  zeros = replicate (512 * p - base_of n) 0

  page_laid : laid Little (header_in Big s) (list_in Big s n) ++ zeros ≡ page_of
  unfolding paged
  page_laid =
      ap (λ (m : ℕ). laid Little (header_in Big s) (list_in Big s m) ++ replicate (512 * p - base_of m) 0) (sym is_n)
      ∙ ap (λ (t : List ℕ). t ++ replicate (512 * p - base_of (header_in Big s).number) 0) (turned-laid Big Little s)

  data_whole : whole_of n (length s) ≡ n
  data_whole = ap (λ (m : ℕ). whole_of m (length s)) (sym is_n) ∙ (fits_clean s r p clean).1 ∙ is_n

  few : n + 1 ≤ 16 * p
  few = subst (λ (m : ℕ). m + 1 ≤ 16 * p) is_n (fits_clean s r p clean).2

  data_was : scsi·taken.Taken Big s r
  data_was = scsi·taken.taken Big s r (ap (λ (f : Result ⊤ Offence). (scsi.answer_of f (header_in Big s) (whole_of (header_in Big s).number (length s)) (torn_of (header_in Big s).number (length s))).number) (fits_clean s r p clean).0)

  front_long : length (laid Little (header_in Big s) (list_in Big s n)) ≡ base_of n
  front_long = ap (λ (m : ℕ). length (laid Little (header_in Big s) (list_in Big s m))) (sym is_n) ∙ ap length (turned-laid Big Little s) ∙ length-turned Big Little s ∙ ap base_of is_n

  page_long : length page_of ≡ 512 * p
  page_long =
      ap length (sym page_laid) ∙ length-append (laid Little (header_in Big s) (list_in Big s n)) zeros ∙ rw (front_long, length-replicate) (omega (arith, few))

  page_header : header_in Little page_of ≡ header_in Big s
  page_header = ap (header_in Little) (sym page_laid) ∙ header_kept Big Little s n fits zeros

  page_returned : (header_in Little page_of).returned ≡ n
  page_returned = ap (λ (h : Header). h.returned) page_header ∙ data_was.returned ∙ is_n

  pub page_number : (header_in Little page_of).number ≡ n
  page_number = ap (λ (h : Header). h.number) page_header ∙ is_n

  page_descriptor : (k : ℕ) → k < n → descriptor_at Little page_of k ≡ descriptor_at Big s k
  page_descriptor k l = ap (λ (t : List ℕ). descriptor_at Little t k) (sym page_laid) ∙ descriptor_kept Big Little s n fits zeros k l

  padding : (i : ℕ) → i < length page_of - base_of n → get_or page_of (base_of n + i) 0 ≡ 0
  padding i l =
      ap (λ (t : List ℕ). get_or t (base_of n + i) 0) (sym page_laid)
      ∙ subst (λ (m : ℕ). get_or (laid Little (header_in Big s) (list_in Big s n) ++ zeros) (m + i) 0 ≡ 0) front_long
      (get_or-append-add (laid Little (header_in Big s) (list_in Big s n)) zeros i 0 ∙ get_or-replicate (512 * p - base_of n) i 0 0 (omega (arith, page_long)))

  page_fits : FitsIn Little page_of n
  page_fits = subst (λ (t : List ℕ). FitsIn Little t n) page_laid (fits_kept Big Little s n fits zeros)

  -- for a request whose rules the list keeps
  module _ (q : Request) (pages : pages_of q ≡ p) (asks : Asked q)
      (list : (k : ℕ) → k < n → Listed q (last_before Big s k) (descriptor_at Big s k)) where
    page_list : (k : ℕ) → k < n → Listed q (last_before Little page_of k) (descriptor_at Little page_of k)
    page_list k l =
        subst (λ (t : List ℕ). Listed q (last_before Little t k) (descriptor_at Little t k)) page_laid
        (list_kept Big Little s n fits zeros q list k l)

    page_keeps : page·taken.Taken Little page_of q
    page_keeps =
        record {
          asked = asks;
          long = page_long ∙ ap (λ (m : ℕ). 512 * m) (sym pages);
          returned = page_returned ∙ sym (ap (λ (m : ℕ). returned_of m (pages_of q)) page_number ∙ omega (arith, few, pages));
          list = λ k l. page_list k (rw page_returned at l);
          padding = subst (λ (m : ℕ). (i : ℕ) → i < length page_of - base_of m → get_or page_of (base_of m + i) 0 ≡ 0) (sym page_returned) padding;
        }

    as_page : PageHolds page_of q (header_in Big s) (scsi.slot_of Big s)
    as_page =
        record {
          taken = page·taken.takes Little page_of q page_keeps ∙ ap (λ (h : Header). tells 0 (page.header h)) page_header;
          elements = λ k.
              slots_alike (header_in Little page_of).returned n page_returned (descriptor_at Little page_of k) (descriptor_at Big s k) k (page_descriptor k)
              ∙ ap (λ (m : ℕ). cond (ltb k m) (Some (descriptor_at Big s k)) None) (sym (ap (λ (m : ℕ). whole_of m (length s)) is_n ∙ data_whole));
        }

  own_page : PageHolds page_of (asked_for p r) (header_in Big s) (scsi.slot_of Big s)
  own_page =
      as_page (asked_for p r) refl (page·theorem.asked_to (asked_for p r) (not-refused p r data_was.fields.0 data_was.fields.1 (omega (arith, few))))
      (λ k l. listed_as (asked r) (asked_for p r) refl refl (omega arith) _ _ (data_was.list k (rw (is_n, data_whole) l)))

  page_clean : page_offence Little page_of (asked_for p r) ≡ Ok tt
  page_clean = (page·theorem.heard_clean Little page_of (asked_for p r) _ (sym own_page.taken)).0

pub data_to_page : DataToPage
data_to_page s r p bytes clean = own_page s r p (header_in Big s).number refl (bytes_fit Big s (header_in Big s).number bytes) clean

-- ## There and back

pub or_both : (a b : Result ⊤ Offence) → a ≡ Ok tt → b ≡ Ok tt → (a or_else b) ≡ Ok tt
or_both a b x y = rw (x, y)

pub there_and_back : ThereAndBack
there_and_back s q r p bytes alike clean few =
    let n = (header_in Little s).number in
    let fits = bytes_fit Little s n bytes in
    let t : List ℕ = turned Little Big s in
    let there = as_data s q r n refl fits alike clean in
    let number = data_number s q r n refl fits alike clean in
    let whole_t = whole s q r n refl fits alike clean in
    let fitting : fits_pages (whole_of (header_in Big t).number (length t)) (header_in Big t).number p ≡ true =
    rw (number, eq-eqb _ _ whole_t, le-leb (n + 1) (16 * p) few) in
    let ok : ata_offence t r p ≡ Ok tt = or_both _ _ (data_clean s q r n refl fits alike clean) (ap (λ (b : Bool). unless b 4) fitting) in
    let asks = (was s q r n refl fits alike clean).asked in
    let back =
    as_page t r p n number (data_fits s q r n refl fits alike clean) ok (with_pages p q) refl (asks.0, asks.1, omega (arith, few), asks.3)
    (data_list s q r n refl fits alike clean (with_pages p q) refl refl (omega arith)) in (
      ok,
      record {
        taken = back.taken ∙ ap (λ (h : Header). tells 0 (page.header h)) (data_header s q r n refl fits alike clean);
        elements = λ k. back.elements k ∙ there.elements k;
      },
    )

pub back_and_there : BackAndThere
back_and_there s r p bytes low clean =
    let n = (header_in Big s).number in
    let fits = bytes_fit Big s n bytes in
    let t : List ℕ = paged p s in
    let was = data_was s r p n refl fits clean in
    let alike : AsksAs (asked_for p r) r =
    record {
      filter = filter_asked p r was.fields.0 was.fields.1;
      report = report_asked p r was.fields.0 was.fields.1;
      start = omega (arith, start_asked p r low);
    } in
    let there = own_page s r p n refl fits clean in
    let number = page_number s r p n refl fits clean in
    let same : eqb (header_in Little t).returned (header_in Little t).number ≡ true = eq-eqb _ _ (page_returned s r p n refl fits clean ∙ sym number) in
    let ok : scsi_offence t (asked_for p r) ≡ Ok tt = or_both _ _ (page_clean s r p n refl fits clean) (ap (λ (b : Bool). unless b 4) same) in
    let back = as_data t (asked_for p r) r n number (page_fits s r p n refl fits clean) alike ok in (
      ok,
      record {
        taken = back.taken ∙ ap (λ (h : Header). tells 0 (scsi.reading h h.number false)) (page_header s r p n refl fits clean);
        elements = λ k. back.elements k ∙ there.elements k;
      },
    )
