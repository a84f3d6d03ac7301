-- The list of descriptors, from place to place, and beside one with the same descriptors.
use Prim.Native.Nat.{ℕ, zero, suc, ◌+◌, ◌-◌, ◌≤◌, ◌<◌}
use mathlib.Core.List.{List}
use mathlib.Core.Path.{◌≡◌, refl, sym, ap, ◌∙◌}
use native.Mathlib.Numerals.{add-one}
use native.Mathlib.Omega.{arith}
use lib.ListN.{take, drop}
use Rattle.std.proofs.Common.{Ok, Err, Result}
use Rattle.std.specs.Prelude.{⊤}
use Rattle.layout.proofs.Reserved.{part_read}
use Rattle.layout.specs.Bytes.{descriptor_in}
use Rattle.layout.specs.declared.Descriptor.{Descriptor}
use Rattle.request.specs.declared.Request.{Request}
use Rattle.words.specs.declared.Order.{Order}
use Rattle.offences.specs.Checks.{base_of, descriptor_at, last_before, check_of, offence_at}
use Rattle.offences.specs.First.{first_below}
use Rattle.offences.specs.Private.{Swept}
use Rattle.offences.specs.declared.Offence.{Offence}
use Rattle.offences.proofs.First.{first_more, first_found, first_done, first-same}

-- a part of 32 bytes is read as what stands there
pub whole_read : (o : Order) (s : List ℕ) (at : ℕ) (d : Descriptor) → d ≡ descriptor_in o (take (at + 32 - at) (drop at s)) → d ≡ descriptor_in o (drop at s)
whole_read o s at d is_d =
    let wide : at + 32 - at ≡ 32 = omega arith in
    is_d ∙ rw wide (part_read o (drop at s))

-- ## The list, from place to place

module _ (o : Order) (s : List ℕ) (q : Request) (count : ℕ) where
  pub swept_none : Swept o s q count 32 0
  swept_none = record { k = 0; is_at = refl; few = omega arith; is_last = refl; clean = refl }

  module _ (at last : ℕ) (so : Swept o s q count at last) where
    pub swept_all : base_of count ≤ at → Ok tt ≡ first_below count (offence_at o s q)
    swept_all past = sym (first_done (offence_at o s q) count so.k so.few (omega arith) so.clean)

    module _ (less : at < base_of count) (d : Descriptor) (is_d : d ≡ descriptor_in o (drop at s)) where
      here : check_of q last at d ≡ offence_at o s q so.k
      here = rw (is_d, so.is_last, so.is_at)

      pub swept_found : (r : Result ⊤ Offence) → r ≡ check_of q last at d → (p : Offence) → r ≡ Err p → Err p ≡ first_below count (offence_at o s q)
      swept_found r is_r p e = sym (first_found (offence_at o s q) count so.k p so.clean (sym here ∙ sym is_r ∙ e) (omega arith))

      pub swept_next : (r : Result ⊤ Offence) → r ≡ check_of q last at d → r ≡ Ok tt → Swept o s q count (at + 32) d.id.0
      swept_next r is_r e = record {
        k = so.k + 1;
        is_at = omega arith;
        few = omega arith;
        is_last = rw (add-one, is_d, so.is_at);
        clean = first_more (offence_at o s q) so.k so.clean (sym here ∙ sym is_r ∙ e);
      }

-- ## The same descriptors below a number

module _ (o p : Order) (s t : List ℕ) where
  abbrev SameBelow : ℕ → Type 0
  SameBelow n = (k : ℕ) → k < n → descriptor_at o s k ≡ descriptor_at p t k

  pub before_same : (k : ℕ) → SameBelow k → last_before o s k ≡ last_before p t k
  before_same zero same = refl
  before_same (suc k) same = ap (λ (d : Descriptor). d.id.0) (same k (omega arith))

  pub list_same : (n : ℕ) → SameBelow n → (q : Request) → first_below n (offence_at o s q) ≡ first_below n (offence_at p t q)
  list_same n same q =
      first-same (offence_at o s q) (offence_at p t q) n
      (λ k less i. check_of q (before_same k (λ j h. same j (omega arith)) i) (base_of k) (same k less i))
