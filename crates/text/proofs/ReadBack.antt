-- Digits read back to their number. The idea: the last digit is what the number leaves when it is divided by the base.
use Prim.Native.Nat.{ℕ, zero, suc, ◌+◌, ◌-◌, ◌*◌, ◌/◌, ◌%◌, ◌^◌, ◌≤◌, ◌<◌}
use mathlib.Core.Bool.{Bool, true, false}
use mathlib.Core.List.{List, [], ◌∷◌, ◌++◌}
use mathlib.Core.Path.{◌≡◌, refl, sym, ◌∙◌}
use native.Mathlib.Nat.{pow-zero, pow-suc, div-add-mod', mod-lt, le-div_iff_mul-le}
use native.Mathlib.Omega.{arith}
use lib.Dec.{ltb, lit<, lit≤}
use borrow.Author.Tests.{le-leb, lt-leb, ltb-true, ltb-false}
use Rattle.text.specs.Digits.{glyph, digits, places_within, places_of, digit_of, value_after}
use Rattle.text.specs.Promises.{DigitsBack, DecimalBack, NoZeroInFront}
use Rattle.text.proofs.Digits.{glyph_low, glyph_high, places_one, places_suc, div_fits}

digit_of-glyph : (d : ℕ) → d < 16 → digit_of (glyph d) ≡ d
digit_of-glyph d h = by_test (ltb d 10) refl
  where
    by_test : (t : Bool) → ltb d 10 ≡ t → digit_of (glyph d) ≡ d
    by_test true e =
        let low : d < 10 = ltb-true d 10 e in
        rw (sym (glyph_low d low), le-leb 48 (48 + d) (omega arith), le-leb (48 + d) 57 (omega arith)) (omega arith)
    by_test false e =
        let high : 10 ≤ d = ltb-false d 10 e in
        rw (sym (glyph_high d high), le-leb 48 (55 + d) (omega arith), lt-leb (55 + d) 57 (omega arith), le-leb 65 (55 + d) (omega arith), le-leb (55 + d) 70 (omega arith))
        (omega arith)

read_snoc : (b n : ℕ) (cs : List ℕ) (c : ℕ) → value_after b n (cs ++ (c ∷ [])) ≡ value_after b n cs * b + digit_of c
read_snoc b n [] c = refl
read_snoc b n (x ∷ cs) c = read_snoc b (n * b + digit_of x) cs c

pub digits_back : DigitsBack
digits_back b zero n low high h = omega (arith, pow-zero b)
digits_back b (suc k) n low high h =
    let rest : n % b < b = mod-lt n (omega arith) in
    read_snoc b 0 (digits b k (n / b)) (glyph (n % b))
    ∙ rw (digits_back b k (n / b) low high (div_fits b k n (omega arith) h), digit_of-glyph (n % b) (omega arith)) (div-add-mod' n b)

places_enough : (k n : ℕ) → n < 10 ^ suc k → n < 10 ^ places_within k n
places_enough zero n h = h
places_enough (suc k) n h = by_test (ltb n 10) refl (places_enough k (n / 10) (div_fits 10 (suc k) n (lit< tt) h))
  where
    by_test : (t : Bool) → ltb n 10 ≡ t → n / 10 < 10 ^ places_within k (n / 10) → n < 10 ^ places_within (suc k) n
    by_test true e g = rw (places_one (suc k) n (ltb-true n 10 e)) (omega (arith, ltb-true n 10 e))
    by_test false e g = rw (places_suc k n (ltb-false n 10 e), pow-suc 10 (places_within k (n / 10))) (omega (arith, g))

pub decimal_back : DecimalBack
decimal_back n h = digits_back 10 (places_of n) n (lit≤ tt) (lit≤ tt) (places_enough 19 n (omega arith))

front : (k n : ℕ) → 1 < places_within k n → 10 ^ (places_within k n - 1) ≤ n
front zero n h = absurd (omega arith)
front (suc k) n h = by_test (ltb n 10) refl (front k (n / 10))
  where
    with_places : (p : ℕ) → 10 ≤ n → (1 < p → 10 ^ (p - 1) ≤ n / 10) → 10 ^ p ≤ n
    with_places zero m g = omega (arith, pow-zero 10)
    with_places (suc zero) m g = m
    with_places (suc (suc q)) m g =
        let less : suc (suc q) - 1 ≡ suc q = omega arith in
        rw (pow-suc 10 (suc q)) ((le-div_iff_mul-le (lit< tt)).0 (rw less at (g (omega arith))))

    by_test : (t : Bool) → ltb n 10 ≡ t → (1 < places_within k (n / 10) → 10 ^ (places_within k (n / 10) - 1) ≤ n / 10)
        → 10 ^ (places_within (suc k) n - 1) ≤ n
    by_test true e g = absurd (omega (arith, places_one (suc k) n (ltb-true n 10 e), h))
    by_test false e g =
        let less : suc (places_within k (n / 10)) - 1 ≡ places_within k (n / 10) = omega arith in
        rw (places_suc k n (ltb-false n 10 e), less) (with_places (places_within k (n / 10)) (ltb-false n 10 e) g)

pub no_zero_in_front : NoZeroInFront
no_zero_in_front n = front 19 n
