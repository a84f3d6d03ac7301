-- The data for a SCSI host keeps each rule of its layout, cut or not, and reads back as what was written (specs/Sent). Whole descriptors of
-- what is cut are those of the whole.
use Prim.Native.Nat.{ℕ, ◌+◌, ◌≤◌, ◌<◌, min}
use mathlib.Core.Bool.{true, false}
use mathlib.Core.List.{List, [], ◌++◌, append-nil}
use mathlib.Core.Path.{◌≡◌, sym, ap, ◌∙◌}
use native.Mathlib.Omega.{arith}
use lib.Dec.{ltb}
use lib.ListN.{length, get_or, take, length-take}
use borrow.Author.Tests.{lt-ltb}
use Rattle.std.proofs.Common.{Some}
use Rattle.conduct.specs.Fits.{Fits}
use Rattle.device.specs.declared.Device.{Device}
use Rattle.layout.specs.Bytes.{header_in, laid}
use Rattle.layout.specs.declared.Descriptor.{Descriptor}
use Rattle.layout.specs.declared.Header.{Header}
use Rattle.offences.proofs.Laid.{length-laid, laid_header, laid_descriptor, cut_header, cut_descriptor}
use Rattle.offences.specs.Checks.{base_of, descriptor_at}
use Rattle.paper.specs.Told.{tells}
use Rattle.query.proofs.Queries.{not_due}
use Rattle.query.specs.Queries.{due_four, asked}
use Rattle.query.specs.declared.Query.{Query}
use Rattle.scsi.proofs.Taken.{Taken, takes}
use Rattle.scsi.specs.Data.{whole_of, torn_of}
use Rattle.scsi.specs.Judgement.{reading, read_of, slot_of}
use Rattle.status.specs.Page.{list_of}
use Rattle.sender.specs.Sent.{sent_header, data_of}
use Rattle.table.specs.Elements.{identifiers, ascending}
use Rattle.words.specs.declared.Order.{Order}
use Rattle.agreement.specs.Sent.{SentAgrees}
use Rattle.agreement.proofs.Agreement.{none, few, list_fits, header_fits, list_here}

module _ (o : Order) (d : Device) (q : Query) (fits : Fits d) where
  abbrev list : List Descriptor
  list = list_of d (asked q)

  data_is : data_of o d q ≡ laid o (sent_header d q) list ++ []
  unfolding data_of
  data_is = sym (append-nil (laid o (sent_header d q) list))

  pub length_data : length (data_of o d q) ≡ base_of (length list)
  unfolding data_of
  length_data = length-laid o (sent_header d q) list

  data_header : header_in o (data_of o d q) ≡ sent_header d q
  data_header =
      ap (header_in o) data_is ∙ laid_header o (sent_header d q) list [] (header_fits d (asked q) fits (length list) (length list) (few d (asked q) fits) (few d (asked q) fits))

  data_descriptor : (k : ℕ) → k < length list → descriptor_at o (data_of o d q) k ≡ get_or list k none
  data_descriptor k l =
      ap (λ (s : List ℕ). descriptor_at o s k) data_is ∙ laid_descriptor o (sent_header d q) list [] (list_fits d (asked q) fits) k none l

  module _ (asc : ascending 0 (identifiers d.table) ≡ true) (ok : due_four q ≡ false) (a : ℕ) (there : 32 ≤ a) where
    abbrev s : List ℕ
    s = take a (data_of o d q)

    abbrev n : ℕ
    n = length list

    abbrev whole : ℕ
    whole = whole_of n (length s)

    long : length s ≡ min a (base_of n)
    long = length-take a (data_of o d q) ∙ ap (min a) length_data

    header_here : header_in o s ≡ sent_header d q
    header_here = cut_header o (data_of o d q) a there ∙ data_header

    number_here : (header_in o s).number ≡ n
    number_here = ap (λ (h : Header). h.number) header_here

    inside : (k : ℕ) → k < whole → base_of k + 32 ≤ a
    inside k l = omega (arith, long)

    here : (k : ℕ) → k < whole → descriptor_at o s k ≡ get_or list k none
    here k l = cut_descriptor o (data_of o d q) a k (inside k l) ∙ data_descriptor k (omega arith)

    keeps : Taken o s q
    keeps =
        record {
          there = omega (arith, long);
          fields = not_due q ok;
          returned = ap (λ (h : Header). h.returned) header_here ∙ sym number_here;
          list = λ k l. list_here d (asked q) fits asc o s whole (omega arith) here k (rw number_here at l);
          most = rw number_here (omega (arith, long));
        }

    taken : read_of o s q ≡ tells 0 (reading (sent_header d q) whole (torn_of n (length s)))
    taken = takes o s q keeps ∙ (λ i. tells 0 (reading (header_here i) (whole_of (number_here i) (length s)) (torn_of (number_here i) (length s))))

    slot_here : (k : ℕ) → k < whole → slot_of o s k ≡ Some (get_or list k none)
    slot_here k l =
        let less : ltb k (whole_of (header_in o s).number (length s)) ≡ true = rw number_here (lt-ltb k whole l) in
        rw less (ap Some (here k l))

pub sent_agrees : SentAgrees
sent_agrees o d q a fits asc ok there = (taken o d q fits asc ok a there, slot_here o d q fits asc ok a there)
