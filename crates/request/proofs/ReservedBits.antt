-- Laws of the reserved bits: one for each way out of the code's test, and what callers use of the definition.
use Prim.Native.Nat.{ℕ, ◌/◌, ◌%◌, ◌^◌, ◌≤◌}
use mathlib.Core.Bool.{true, false, not}
use mathlib.Core.Path.{◌≡◌, refl, sym, ap, ◌∙◌}
use native.Mathlib.Nat.{mod-mod}
use native.Mathlib.Omega.{arith}
use lib.Dec.{eqb}
use lib.Pow.{mod-mod-pow}
use borrow.Author.Tests.{eq-eqb, ne_eqb, eqb-true, not-false}
use Rattle.request.specs.Promises.{UnsetExactly, HighBitsAlike}
use Rattle.request.specs.Requests.{pages_of, sets_reserved, refused}
use Rattle.request.specs.declared.Request.{Request}
use Rattle.request.proofs.Requests.{or_false_both, accepted, not-refused}

-- LBA 47:32 are the upper 16 of the 48 bits that count
high_low : (n : ℕ) → n / 2 ^ 32 % 2 ^ 16 ≡ n % 2 ^ 48 / 2 ^ 32
high_low n = omega arith

module _ (q : Request) where
  -- FEATURE 13:12, FEATURE 7:0 and LBA 47:32
  abbrev upper : ℕ
  upper = q.feature / 2 ^ 12 % 2 ^ 2

  abbrev lower : ℕ
  lower = q.feature % 2 ^ 8

  abbrev high : ℕ
  high = q.lba.0 / 2 ^ 32 % 2 ^ 16

  -- ## A law for each way out

  pub set_upper : (upper ≡ 0 → ⊥) → true ≡ sets_reserved q
  set_upper n = sym (rw (ne_eqb upper 0 n))

  pub set_lower : upper ≡ 0 → (lower ≡ 0 → ⊥) → true ≡ sets_reserved q
  set_lower u n = sym (rw (eq-eqb upper 0 u, ne_eqb lower 0 n))

  pub set_high : upper ≡ 0 → lower ≡ 0 → not (eqb high 0) ≡ sets_reserved q
  set_high u l = sym (rw (eq-eqb upper 0 u, eq-eqb lower 0 l))

  -- ## For callers

  -- each of the three is zero
  pub none_set : sets_reserved q ≡ false → (upper ≡ 0) × (lower ≡ 0) × (high ≡ 0)
  none_set e =
      let one = or_false_both (not (eqb upper 0)) _ e in
      let two = or_false_both (not (eqb lower 0)) _ one.1 in
      (eqb-true _ _ (not-false _ one.0), eqb-true _ _ (not-false _ two.0), eqb-true _ _ (not-false _ two.1))

  pub unset : upper ≡ 0 → lower ≡ 0 → high ≡ 0 → sets_reserved q ≡ false
  unset u l h = rw (eq-eqb upper 0 u, eq-eqb lower 0 l, eq-eqb high 0 h)

-- ## The statements

pub unset_exactly : UnsetExactly
unset_exactly q = (
  λ e. let (u, l, h) = none_set q e in (omega (arith, u, l), omega (arith, h)),
  λ (feature, lba). unset q (omega (arith, feature)) (omega (arith, feature)) (high_low q.lba.0 ∙ ap (λ (n : ℕ). n / 2 ^ 32) lba ∙ omega arith),
)

pub high_bits_alike : HighBitsAlike
high_bits_alike q =
    let n = q.lba.0 in
    record {
      filter = refl;
      report = refl;
      pages = refl;
      start = sym (mod-mod-pow n 16 32);
      reserved = rw (high_low n, high_low (n % 2 ^ 48), mod-mod n (2 ^ 48));
    }

-- ## The next request

-- a request is not due 4 with the FEATURE of another that is not, a page at least and a start that is an identifier
pub asked_again : (q p : Request) → p.feature ≡ q.feature → p.lba.0 ≤ 0xFFFF_FFFF → 1 ≤ pages_of p → refused q ≡ false → refused p ≡ false
asked_again q p same low some e =
    let (f, r, _, none) = accepted q e in
    let (a, b, _) = none_set q none in
    not-refused p (rw same f) (rw same r) some (unset p (rw same a) (rw same b) (omega (arith, low)))
