-- What holds of numbers as text. Each is a statement; proofs/ has the proof under the same name in lower case.
use Rattle.std.specs.Prelude.{ℕ, ◌-◌, ◌^◌, ◌≤◌, ◌<◌, ◌≡◌}
use Rattle.text.specs.Digits.{digits, places_of, decimal_of, value_of}

-- the digits of a number that they hold read back to it
abbrev pub DigitsBack : Type 0
DigitsBack = (b k n : ℕ) → 2 ≤ b → b ≤ 16 → n < b ^ k → value_of b (digits b k n) ≡ n

-- in decimal, every number of 64 bits
abbrev pub DecimalBack : Type 0
DecimalBack = (n : ℕ) → n < 2 ^ 64 → value_of 10 (decimal_of n) ≡ n

-- with no zero in front: no fewer digits hold it
abbrev pub NoZeroInFront : Type 0
NoZeroInFront = (n : ℕ) → 1 < places_of n → 10 ^ (places_of n - 1) ≤ n
