-- Decimal digits as the bytes of a number, and a number stored as its first digits and the others behind them.
use Prim.Native.Nat.{ℕ, ◌+◌, ◌-◌, ◌*◌, ◌/◌, ◌%◌, ◌^◌, ◌≤◌, ◌<◌}
use mathlib.Core.List.{List, [], ◌∷◌, ◌++◌}
use mathlib.Core.Path.{◌≡◌, sym, ap, ◌∙◌, subst}
use native.Mathlib.Nat.{add_comm, mul_comm}
use native.Mathlib.Omega.{arith}
use Rattle.slices.specs.Lists.{stored, ended}
use Rattle.text.proofs.Digits.{glyph_low, digits_parts, decimal_parts, places_one}
use Rattle.text.specs.Digits.{glyph, digits, decimal_of}
use Rattle.words.proofs.Bytes.{low_parts}
use Rattle.words.specs.Bytes.{low_bytes}
use Rattle.writing.specs.Private.{Puts}
use Rattle.writing.proofs.Puts.{puts_same, puts_more}

-- ## Digits as bytes

module _ (n : ℕ) (small : n < 100) where
  pub two_small : 12336 + 256 * n - 2559 * (n / 10) < 256 ^ 2
  two_small = omega arith

  pub two_bytes : low_bytes 2 (12336 + 256 * n - 2559 * (n / 10)) ≡ digits 10 2 n
  two_bytes =
      let whole : 12336 + 256 * n - 2559 * (n / 10) ≡ (48 + n % 10) * 256 ^ 1 + (48 + n / 10) = omega arith in
      let tens : (48 + n / 10) % 256 ≡ 48 + n / 10 % 10 = omega arith in
      let ones : (48 + n % 10) % 256 ≡ 48 + n % 10 = omega arith in
      let a : (48 + n / 10) % 256 ≡ glyph (n / 10 % 10) = tens ∙ glyph_low (n / 10 % 10) (omega arith) in
      let b : (48 + n % 10) % 256 ≡ glyph (n % 10) = ones ∙ glyph_low (n % 10) (omega arith) in
      ap (low_bytes 2) whole ∙ low_parts 1 1 (48 + n / 10) (48 + n % 10) (omega arith) ∙ (λ i. a i ∷ b i ∷ [])

-- of the first digits and the others, k each
pub parts_bytes : (k n x y r : ℕ) → (low_bytes k x ≡ digits 10 k (n / 10 ^ k)) × (x < 256 ^ k) → low_bytes k y ≡ digits 10 k (n % 10 ^ k)
    → r ≡ x + 256 ^ k * y → low_bytes (k + k) r ≡ digits 10 (k + k) n
parts_bytes k n x y r (is_x, low) is_y is_r =
    let turned : r ≡ y * 256 ^ k + x = is_r ∙ rw (add_comm x (256 ^ k * y), mul_comm (256 ^ k) y) in
    rw turned (low_parts k k x y low ∙ rw (is_x, is_y) (sym (digits_parts k k n)))

-- ## Stored

pub one_puts : (d x : List ℕ) (at r n : ℕ) → n < 10 → x ≡ stored d at ((48 + n) ∷ []) → r ≡ ended d at ((48 + n) ∷ []) → Puts d at (digits 10 1 n) x r
one_puts d x at r n small is_x is_r =
    let same : n ≡ n % 10 = omega arith in
    let one : 48 + n ≡ glyph (n % 10) = glyph_low n small ∙ ap glyph same in
    puts_same d x at r ((48 + n) ∷ []) (digits 10 1 n) (ap (λ (b : ℕ). b ∷ []) one) is_x is_r

pub bytes_puts : (k : ℕ) (d x b : List ℕ) (at r n y : ℕ) → low_bytes k y ≡ digits 10 k n → b ≡ low_bytes k y → x ≡ stored d at b → r ≡ ended d at b
    → Puts d at (digits 10 k n) x r
bytes_puts k d x b at r n y is_y is_b is_x is_r = puts_same d x at r b (digits 10 k n) (is_b ∙ is_y) is_x is_r

-- ## With no zero in front

decimal_one : (n : ℕ) → n < 10 → digits 10 1 n ≡ decimal_of n
decimal_one n small = sym (ap (λ (k : ℕ). digits 10 k n) (places_one 19 n small))

-- of so many digits
decimal_all : (k n : ℕ) → 10 ^ k ≤ n → n / 10 ^ k < 10 → n < 10 ^ 20 → digits 10 (1 + k) n ≡ decimal_of n
decimal_all k n some few small =
    digits_parts 1 k n ∙ ap (λ (l : List ℕ). l ++ digits 10 k (n % 10 ^ k)) (decimal_one (n / 10 ^ k) few) ∙ sym (decimal_parts k n some small)

module _ (d x : List ℕ) (at r n : ℕ) where
  named : (a b : List ℕ) → a ≡ b → Puts d at a x r → Puts d at b x r
  named a b e puts = subst (λ (l : List ℕ). Puts d at l x r) e puts

  pub puts_digit : n < 10 → Puts d at (digits 10 1 n) x r → Puts d at (decimal_of n) x r
  puts_digit small = named (digits 10 1 n) (decimal_of n) (decimal_one n small)

  pub puts_two : 10 ≤ n → n < 100 → Puts d at (digits 10 2 n) x r → Puts d at (decimal_of n) x r
  puts_two some small = named (digits 10 2 n) (decimal_of n) (decimal_all 1 n some (omega arith) (omega arith))

  pub puts_four : 1000 ≤ n → n < 10 ^ 4 → Puts d at (digits 10 4 n) x r → Puts d at (decimal_of n) x r
  puts_four some small = named (digits 10 4 n) (decimal_of n) (decimal_all 3 n some (omega arith) (omega arith))

-- the first digits, and k behind them
pub puts_parts : (k : ℕ) (d x y : List ℕ) (at m r n : ℕ) → 10 ^ k ≤ n → n < 2 ^ 64 → Puts d at (decimal_of (n / 10 ^ k)) x m
    → Puts x m (digits 10 k (n % 10 ^ k)) y r → Puts d at (decimal_of n) y r
puts_parts k d x y at m r n some small first last =
    named d y at r n (decimal_of (n / 10 ^ k) ++ digits 10 k (n % 10 ^ k)) (decimal_of n) (sym (decimal_parts k n some (omega arith)))
    (puts_more d x at m (decimal_of (n / 10 ^ k)) (digits 10 k (n % 10 ^ k)) y r last first)

pub puts_three : (d x y : List ℕ) (at m r n : ℕ) → 100 ≤ n → n < 1000 → Puts d at (digits 10 1 (n / 100)) x m → Puts x m (digits 10 2 (n % 100)) y r
    → Puts d at (decimal_of n) y r
puts_three d x y at m r n some small first = puts_parts 2 d x y at m r n some (omega arith) (puts_digit d x at m (n / 100) (omega arith) first)
