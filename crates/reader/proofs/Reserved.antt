-- Reserved bytes are not looked at (specs/Promises). Pages that look alike have one header and one descriptor at every number, past the last
-- returned too, where every byte is padding; and these, the length and the padding are all that is read.
use Prim.Native.Nat.{ℕ, ◌+◌, ◌-◌, ◌*◌}
use mathlib.Core.Bool.{Bool, true, false, cond, not}
use mathlib.Core.List.{List}
use mathlib.Core.Path.{◌≡◌, refl, sym, ap, ◌∙◌}
use native.Mathlib.Omega.{arith}
use lib.Dec.{eqb, ltb}
use lib.ListN.{drop}
use lib.Seq.{get_or-drop}
use borrow.Author.Tests.{ltb-true, ltb-false}
use Rattle.std.proofs.Common.{None, Some}
use Rattle.layout.proofs.Reserved.{header_reserved, descriptor_reserved}
use Rattle.layout.specs.Bytes.{header_in, returned_of}
use Rattle.layout.specs.Reserved.{in_descriptor, DescriptorsAlike}
use Rattle.layout.specs.declared.Header.{Header}
use Rattle.offences.proofs.Checks.{before_same, list_same}
use Rattle.offences.specs.Checks.{base_of, descriptor_at, last_before}
use Rattle.offences.specs.First.{unless, ◌or_else◌, first_below}
use Rattle.request.specs.Requests.{pages_of, refused}
use Rattle.request.specs.declared.Request.{Request}
use Rattle.words.specs.declared.Order.{Order}
use Rattle.reader.specs.Judgement.{answer_of, read_of, slot_of}
use Rattle.reader.specs.Page.{padding_at, contents_of, page_offence}
use Rattle.reader.specs.Promises.{ReservedUnseen}
use Rattle.reader.specs.Reserved.{LooksAlike}

module _ (o : Order) (s t : List ℕ) (alike : LooksAlike o s t) where
  abbrev n : ℕ
  n = (header_in o s).returned

  pub header_same : header_in o s ≡ header_in o t
  header_same = header_reserved o s t alike.header

  pub list_alike : (k : ℕ) → DescriptorsAlike (drop (base_of k) s) (drop (base_of k) t)
  list_alike k = by_test (ltb k n) refl
    where
      by_test : (b : Bool) → ltb k n ≡ b → DescriptorsAlike (drop (base_of k) s) (drop (base_of k) t)
      by_test true e = alike.list k (ltb-true k n e)
      by_test false e = λ at.
          ap (in_descriptor at)
          (get_or-drop (base_of k) s at 0 ∙ alike.padding (base_of k + at) (omega (arith, ltb-false k n e)) ∙ sym (get_or-drop (base_of k) t at 0))

  pub descriptor_same : (k : ℕ) → descriptor_at o s k ≡ descriptor_at o t k
  descriptor_same k = descriptor_reserved o (drop (base_of k) s) (drop (base_of k) t) (list_alike k)

  pub last_same : (k : ℕ) → last_before o s k ≡ last_before o t k
  last_same k = before_same o o s t k (λ j less. descriptor_same j)

  module _ (q : Request) where
    padding_same : (k : ℕ) → padding_at s (base_of n) k ≡ padding_at t (base_of n) k
    padding_same k = ap (λ (b : ℕ). unless (eqb b 0) (base_of n + k)) (alike.padding (base_of n + k) (omega arith))

    contents_same : contents_of o s q n ≡ contents_of o t q (header_in o t).returned
    contents_same =
        (λ i. list_same o o s t n (λ k less. descriptor_same k) q i or_else first_below (alike.long i - base_of n) (λ k. padding_same k i))
        ∙ ap (λ (h : Header). contents_of o t q h.returned) header_same

    offences_same : page_offence o s q ≡ page_offence o t q
    offences_same = λ i.
        unless (not (refused q)) 0 or_else
        (unless (eqb (alike.long i) (512 * pages_of q)) 0 or_else
        (unless (eqb (header_same i).returned (returned_of (header_same i).number (pages_of q))) 4 or_else
        contents_same i))

    pub read_same : read_of o s q ≡ read_of o t q
    read_same = λ i. answer_of (offences_same i) (header_same i)

  slot_same : (k : ℕ) → slot_of o s k ≡ slot_of o t k
  slot_same k = λ i. cond (ltb k (header_same i).returned) (Some (descriptor_same k i)) None

pub reserved_unseen : ReservedUnseen
reserved_unseen o s t alike = (read_same o s t alike, slot_same o s t alike)
