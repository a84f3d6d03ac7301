-- Laws of digits: of each, how many a number has and how long they are, and a number's digits as those of two parts.
use Prim.Native.Nat.{ℕ, zero, suc, ◌+◌, ◌-◌, ◌*◌, ◌/◌, ◌%◌, ◌^◌, ◌≤◌, ◌<◌}
use mathlib.Core.Bool.{Bool, true, false, cond}
use mathlib.Core.List.{List, [], ◌∷◌, ◌++◌, append_assoc, append-nil}
use mathlib.Core.Path.{◌≡◌, refl, sym, ap, ◌∙◌}
use native.Mathlib.Nat.{pow-suc, one-le-pow, add-zero, add-suc, mul_comm, mul_assoc, div-one, mod-lt, mod-eq_of_lt, mod-add-div, add-mul-div_left, add-mul-mod_self_left, div-div-eq-div-mul, div-lt_iff_lt-mul, le-div_iff_mul-le}
use native.Mathlib.Numerals.{add-one}
use native.Mathlib.Omega.{arith}
use lib.Dec.{ltb, lit<}
use lib.ListN.{length, length-append}
use borrow.Author.Tests.{lt-ltb, le-ltb}
use Rattle.text.specs.Digits.{glyph, digits, places_within, places_of, decimal_of}

-- ## A digit

pub glyph_low : (d : ℕ) → d < 10 → 48 + d ≡ glyph d
glyph_low d h = sym (rw (lt-ltb _ _ h))

pub glyph_high : (d : ℕ) → 10 ≤ d → 55 + d ≡ glyph d
glyph_high d h = sym (rw (le-ltb _ _ h))

-- ## How many

pub places_one : (k n : ℕ) → n < 10 → places_within k n ≡ 1
places_one zero n h = refl
places_one (suc k) n h = rw (lt-ltb _ _ h)

pub places_suc : (k n : ℕ) → 10 ≤ n → places_within (suc k) n ≡ suc (places_within k (n / 10))
places_suc k n h = rw (le-ltb _ _ h)

pub div_fits : (b k n : ℕ) → 0 < b → n < b ^ suc k → n / b < b ^ k
div_fits b k n p h = (div-lt_iff_lt-mul p).1 (rw (pow-suc b k) at h)

-- a loop that divides `rest` by 10 until one digit is left: k digits so far
abbrev pub Counted : ℕ → ℕ → ℕ → Type 0
Counted n rest k = (places_of n + 1 ≡ k + places_within (20 - k) rest) × (k ≤ 20) × (rest < 10 ^ suc (20 - k))

pub counted_next : (n rest k : ℕ) → Counted n rest k → 10 ≤ rest → Counted n (rest / 10) (k + 1)
counted_next n rest k (so, few, small) h = by_room (20 - k) refl
  where
    by_room : (m : ℕ) → 20 - k ≡ m → Counted n (rest / 10) (k + 1)
    by_room zero e = absurd (let one : rest < 10 ^ 1 = subst_room e in omega arith)
      where
        subst_room : 20 - k ≡ 0 → rest < 10 ^ 1
        subst_room e = rw e at small
    by_room (suc m) e =
        let room : 20 - (k + 1) ≡ m = omega arith in
        let more : places_within (20 - k) rest ≡ suc (places_within m (rest / 10)) = rw e (places_suc m rest h) in
        (rw room (omega (arith, so, more)), omega arith, rw room (div_fits 10 (suc m) rest (lit< tt) (rw e at small)))

pub counted_all : (n rest k : ℕ) → Counted n rest k → rest < 10 → k ≡ places_of n
counted_all n rest k (so, few, small) h = omega (arith, so, places_one (20 - k) rest h)

-- as many as there can be, and one more
places_enough : (k n : ℕ) → n < 10 ^ suc k → places_within (suc k) n ≡ places_within k n
places_enough zero n h = places_one 1 n (omega arith)
places_enough (suc k) n h = by_test (ltb n 10) (places_enough k (n / 10) (div_fits 10 (suc k) n (lit< tt) h))
  where
    by_test : (t : Bool) → places_within (suc k) (n / 10) ≡ places_within k (n / 10)
        → cond t 1 (suc (places_within (suc k) (n / 10))) ≡ cond t 1 (suc (places_within k (n / 10)))
    by_test true e = refl
    by_test false e = ap suc e

-- ## How long

pub length_digits : (b k n : ℕ) → length (digits b k n) ≡ k
length_digits b zero n = refl
length_digits b (suc k) n = rw (length-append, length_digits b k (n / b)) (add-one k)

places_most : (k n : ℕ) → places_within k n ≤ suc k
places_most zero n = omega arith
places_most (suc k) n = by_test (ltb n 10) (places_most k (n / 10))
  where
    by_test : (t : Bool) → places_within k (n / 10) ≤ suc k → cond t 1 (suc (places_within k (n / 10))) ≤ suc (suc k)
    by_test true h = omega arith
    by_test false h = omega arith

pub length_decimal : (n : ℕ) → length (decimal_of n) ≤ 20
length_decimal n = rw (length_digits 10 (places_of n) n) (places_most 19 n)

-- ## In two parts

-- a number by ten times m
module _ (m n : ℕ) (some : 0 < m) where
  abbrev rest : ℕ
  rest = n % (m * 10)

  whole : n ≡ rest + 10 * (m * (n / (m * 10)))
  whole =
      let ten : m * 10 * (n / (m * 10)) ≡ 10 * (m * (n / (m * 10))) = ap (λ (x : ℕ). x * (n / (m * 10))) (mul_comm m 10) ∙ mul_assoc 10 m (n / (m * 10)) in
      sym (mod-add-div n (m * 10)) ∙ ap (λ (x : ℕ). rest + x) ten

  rest_tens : n / 10 % m ≡ rest / 10
  rest_tens =
      let low : rest / 10 < m = (div-lt_iff_lt-mul (lit< tt)).1 (mod-lt n (omega arith)) in
      let tens : n / 10 ≡ rest / 10 + m * (n / (m * 10)) = ap (λ (x : ℕ). x / 10) whole ∙ add-mul-div_left rest (m * (n / (m * 10))) (lit< tt) in
      ap (λ (x : ℕ). x % m) tens ∙ add-mul-mod_self_left (rest / 10) m (n / (m * 10)) ∙ mod-eq_of_lt low

  rest_ones : n % 10 ≡ rest % 10
  rest_ones = ap (λ (x : ℕ). x % 10) whole ∙ add-mul-mod_self_left rest 10 (m * (n / (m * 10)))

module _ (k n : ℕ) where
  first_part : n / 10 / 10 ^ k ≡ n / 10 ^ suc k
  first_part = div-div-eq-div-mul n 10 (10 ^ k) ∙ rw (pow-suc 10 k, mul_comm 10 (10 ^ k))

  last_part : digits 10 k (n / 10 % 10 ^ k) ++ (glyph (n % 10) ∷ []) ≡ digits 10 (suc k) (n % 10 ^ suc k)
  last_part =
      let some : 0 < 10 ^ k = one-le-pow k 10 (lit< tt) in
      rw (pow-suc 10 k, rest_tens (10 ^ k) n some, rest_ones (10 ^ k) n some)

  -- one digit more behind two parts
  one_more : (P : List ℕ) → (P ++ digits 10 k (n / 10 % 10 ^ k)) ++ (glyph (n % 10) ∷ []) ≡ P ++ digits 10 (suc k) (n % 10 ^ suc k)
  one_more P = append_assoc P (digits 10 k (n / 10 % 10 ^ k)) (glyph (n % 10) ∷ []) ∙ ap (λ (l : List ℕ). P ++ l) last_part

pub digits_parts : (j k n : ℕ) → digits 10 (j + k) n ≡ digits 10 j (n / 10 ^ k) ++ digits 10 k (n % 10 ^ k)
digits_parts j zero n = rw (add-zero, append-nil, div-one)
digits_parts j (suc k) n =
    rw (add-suc j k)
    (ap (λ (l : List ℕ). l ++ (glyph (n % 10) ∷ [])) (digits_parts j k (n / 10))
    ∙ one_more k n (digits 10 j (n / 10 / 10 ^ k))
    ∙ rw (first_part k n))

decimal_next : (n : ℕ) → 10 ≤ n → n < 10 ^ 20 → decimal_of n ≡ decimal_of (n / 10) ++ (glyph (n % 10) ∷ [])
decimal_next n h small =
    let more : places_of n ≡ suc (places_of (n / 10)) = places_suc 18 n h ∙ ap suc (sym (places_enough 18 (n / 10) (div_fits 10 19 n (lit< tt) small))) in
    ap (λ (k : ℕ). digits 10 k n) more

pub decimal_parts : (k n : ℕ) → 10 ^ k ≤ n → n < 10 ^ 20 → decimal_of n ≡ decimal_of (n / 10 ^ k) ++ digits 10 k (n % 10 ^ k)
decimal_parts zero n h small = rw (append-nil, div-one)
decimal_parts (suc k) n h small =
    let room : 10 ^ k * 10 ≤ n = rw (pow-suc 10 k) at h in
    let some : 1 ≤ 10 ^ k = one-le-pow k 10 (lit< tt) in
    decimal_next n (omega arith) small
    ∙ ap (λ (l : List ℕ). l ++ (glyph (n % 10) ∷ [])) (decimal_parts k (n / 10) ((le-div_iff_mul-le (lit< tt)).1 room) (omega arith))
    ∙ one_more k n (decimal_of (n / 10 / 10 ^ k))
    ∙ rw (first_part k n)
