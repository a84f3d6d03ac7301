-- The device's SCSI data is its page converted (specs/Exchange): both show one list under one header.
use Prim.Native.Nat.{ℕ, ◌+◌, ◌*◌, ◌≤◌, ◌<◌}
use mathlib.Core.Bool.{Bool, true, false}
use mathlib.Core.List.{List}
use mathlib.Core.Path.{◌≡◌, refl, sym, ap, ◌∙◌}
use native.Mathlib.Omega.{arith}
use lib.Dec.{eqb}
use lib.ListN.{length, get_or}
use lib.Seq.{take_all}
use borrow.Author.Tests.{eq-eqb}
use Rattle.std.proofs.Common.{Ok}
use Rattle.agreement.proofs.Agreement.{none, header_here, descriptor_here, agrees}
use Rattle.agreement.proofs.Sent.{length_data}
use Rattle.conduct.specs.Fits.{Fits}
use Rattle.convert.proofs.Outcomes.{turned-laid}
use Rattle.convert.specs.Convert.{list_in, turned}
use Rattle.device.specs.Record.{removed_number}
use Rattle.device.specs.declared.Device.{Device}
use Rattle.layout.specs.Bytes.{header_in, laid, returned_of}
use Rattle.layout.specs.declared.Descriptor.{Descriptor}
use Rattle.layout.specs.declared.Header.{Header}
use Rattle.offences.specs.Checks.{descriptor_at}
use Rattle.offences.specs.First.{unless}
use Rattle.query.proofs.Queries.{not_due, not-refused}
use Rattle.query.specs.Queries.{due_four, asked_for, asked}
use Rattle.query.specs.declared.Query.{Query}
use Rattle.reader.proofs.LayoutTheorem.{heard_clean}
use Rattle.request.specs.Requests.{refused}
use Rattle.request.specs.declared.Request.{Request}
use Rattle.slices.proofs.Lists.{map-up_to, map_places}
use Rattle.status.specs.Page.{list_of, headed, header_of, page_of}
use Rattle.sender.specs.Sent.{sent_header, data_of}
use Rattle.table.specs.Elements.{identifiers, ascending}
use Rattle.view.specs.Shown.{asks}
use Rattle.words.specs.declared.Order.TheVariants.{Little, Big}
use Rattle.exchange.specs.Exchange.{SendsItsPage}
use Rattle.exchange.proofs.Exchange.{or_both}

-- pages have no part in what is asked of an element
one_list : (d : Device) (q : Query) (p : ℕ) → list_of d (asked_for p q) ≡ list_of d (asked q)
unfolding list_of asks
one_list d q p = refl

module _ (d : Device) (q : Query) (p : ℕ) (fits : Fits d) (asc : ascending 0 (identifiers d.table) ≡ true) (ok : due_four q ≡ false)
    (few : length (list_of d (asked q)) + 1 ≤ 16 * p) where
  abbrev request : Request
  request = asked_for p q

  abbrev page : List ℕ
  page = page_of d request

  abbrev list : List Descriptor
  list = list_of d (asked q)

  abbrev n : ℕ
  n = length list

  taken : refused request ≡ false
  taken = not-refused p q (not_due q ok).0 (not_due q ok).1 (omega arith)

  number : length (list_of d request) ≡ n
  number = ap length (one_list d q p)

  all : returned_of (length (list_of d request)) p ≡ n
  all = ap (λ (m : ℕ). returned_of m p) number ∙ omega arith

  one_header : header_of d request ≡ sent_header d q
  one_header = λ i. headed (number i) (all i) d.cells.note d.table.limit (removed_number d)

  header : header_in Little page ≡ sent_header d q
  header = header_here d request fits asc taken ∙ one_header

  descriptor : (k : ℕ) → k < n → descriptor_at Little page k ≡ get_or list k none
  descriptor k l =
      descriptor_here d request fits asc taken k (omega (arith, all)) ∙ ap (λ (x : List Descriptor). get_or x k none) (one_list d q p)

  one-list_in : list_in Little page n ≡ list
  one-list_in =
      map-up_to (descriptor_at Little page) (λ (k : ℕ). get_or list k none) n descriptor ∙ map_places list none n (omega arith) ∙ take_all n list (omega arith)

  whole : turned Little Big page ≡ data_of Big d q
  unfolding data_of
  whole =
      sym (turned-laid Little Big page)
      ∙ (λ i. laid Big (header i) (list_in Little page (header i).number))
      ∙ ap (laid Big (sent_header d q)) one-list_in

  clean : (unless (eqb (header_in Little page).returned (header_in Little page).number) 4 ≡ Ok tt)
  clean = ap (λ (b : Bool). unless b 4) (eq-eqb _ _ (ap (λ (h : Header). h.returned) header ∙ sym (ap (λ (h : Header). h.number) header)))

pub sends_its_page : SendsItsPage
sends_its_page d q p a fits asc ok few room = (
  or_both _ _ (heard_clean Little (page_of d (asked_for p q)) (asked_for p q) _ (sym (agrees d (asked_for p q) fits asc (taken d q p fits asc ok few)).0)).0
      (clean d q p fits asc ok few),
  whole d q p fits asc ok few ∙ sym (take_all a (data_of Big d q) (omega (arith, length_data Big d q fits))),
)
