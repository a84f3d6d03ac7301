-- Laws of hexadecimal numbers: one for each way out, and for a turn of the loop.
use Prim.Native.Nat.{ℕ, ◌^◌, ◌≤◌, ◌<◌}
use mathlib.Core.Bool.{Bool, true, false, cond, ◌&&◌, false≢true}
use mathlib.Core.List.{List}
use mathlib.Core.Logic.{◌⊎◌, inl, inr}
use mathlib.Core.Path.{◌≡◌, refl, sym, ap, ◌∙◌}
use native.Mathlib.Nat.{pow-le-pow_right}
use native.Mathlib.Omega.{arith}
use lib.Dec.{leb, lit<}
use lib.ListN.{length, drop, get_or, drop_of_length-le}
use lib.Seq.{drop-cons}
use borrow.Author.Tests.{le-leb, lt-leb, leb-true, ltb-true}
use Rattle.std.proofs.lemmas.Option.{none-some, cond_some}
use Rattle.std.specs.Prelude.{Option, Some, None, IfSome}
use Rattle.slices.specs.Lists.{all}
use Rattle.text.specs.Digits.{within, digit_of, value_after, value_of}
use Rattle.lines.specs.Numbers.{is_digit, is_number, field_of, field_at}
use Rattle.lines.specs.Parts.{word_at}
use Rattle.lines.specs.Private.{digit_at}

-- ## A digit

module _ (c : ℕ) where
  pub digit_is : (d : ℕ) → Some d ≡ digit_at c → (d ≡ digit_of c) × (d < 16)
  digit_is d e =
      let (some, same) = cond_some (is_digit c) (digit_of c) d (sym e) in
      (sym same, rw (← same) (ltb-true (digit_of c) 16 some))

  pub digit_none : None ≡ digit_at c → is_digit c ≡ false
  digit_none e = by_test (is_digit c) e
    where
      by_test : (t : Bool) → ◌≡◌ {A = Option ℕ} None (cond t (Some (digit_of c)) None) → t ≡ false
      by_test true e = absurd (none-some (digit_of c) e)
      by_test false e = refl

-- ## A number

module _ (most : ℕ) (w : List ℕ) where
  pub length_unfit : (length w ≡ 0) ⊎ (16 < length w) → None ≡ field_of most w
  unfolding field_of
  length_unfit (inl h) = sym (rw (lt-leb 1 (length w) (omega arith)))
  length_unfit (inr h) = sym (rw (le-leb 1 (length w) (omega arith), lt-leb (length w) 16 h))

  -- the first i bytes are digits, and their number is `value`
  pub record Read (value i : ℕ) : Type 0 where
    pub digits : all is_digit (drop i w) ≡ all is_digit w
    pub number : value_after 16 value (drop i w) ≡ value_of 16 w
    pub small : value < 16 ^ i
    pub inside : i ≤ length w

  module _ (value i : ℕ) (so : Read value i) (short : length w ≤ 16) where
    pub value_small : i < length w → value < 2 ^ 60
    value_small less =
        let few : i ≤ 15 = omega arith in
        let bound : 16 ^ i ≤ 16 ^ 15 = pow-le-pow_right (lit< tt) few in
        omega (arith, so.small, bound)

    module _ (less : i < length w) where
      pub number_none : None ≡ digit_at (get_or w i 0) → None ≡ field_of most w
      unfolding field_of
      number_none e =
          let none : all is_digit w ≡ false = sym so.digits ∙ rw (drop-cons w i 0 less, digit_none (get_or w i 0) e) in
          sym (rw (le-leb 1 (length w) (omega arith), le-leb (length w) 16 short, none))

    module _ (all_read : length w ≤ i) (some : length w ≡ 0 → ⊥) where
      is_value : value ≡ value_of 16 w
      is_value = ap (value_after 16 value) (sym (drop_of_length-le w all_read)) ∙ so.number

      are_digits : all is_digit w ≡ true
      are_digits = sym so.digits ∙ ap (all is_digit) (drop_of_length-le w all_read)

      pub number_above : most < value → None ≡ field_of most w
      unfolding field_of
      number_above h = sym (rw (le-leb 1 (length w) (omega arith), le-leb (length w) 16 short, are_digits, ← is_value, lt-leb value most h))

      pub number_is : value ≤ most → Some value ≡ field_of most w
      unfolding field_of
      number_is h = sym (rw (le-leb 1 (length w) (omega arith), le-leb (length w) 16 short, are_digits, ← is_value, le-leb value most h))

-- ## A field

last_of : (a b c : Bool) → (a && (b && c)) ≡ true → c ≡ true
last_of true true c e = e
last_of true false c e = absurd (false≢true e)
last_of false b c e = absurd (false≢true e)

pub field_most : (l : List ℕ) (k most : ℕ) → IfSome (field_at l k most) (λ value. value ≤ most)
unfolding field_at field_of
field_most l k most = by_test (is_number most w) refl
  where
    w : List ℕ
    w = word_at k l

    by_test : (t : Bool) → is_number most w ≡ t → IfSome (cond t (Some (value_of 16 w)) None) (λ value. value ≤ most)
    by_test true e = leb-true (value_of 16 w) most (last_of (within 1 16 (length w)) (all is_digit w) (leb (value_of 16 w) most) e)
    by_test false e = tt
