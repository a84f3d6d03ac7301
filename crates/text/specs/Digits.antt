-- Numbers as text: digits in a base, the most significant first.
use Rattle.std.specs.Prelude.{ℕ, zero, suc, ◌+◌, ◌-◌, ◌*◌, ◌/◌, ◌%◌, Bool, cond, ◌&&◌, List, [], ◌∷◌, ◌++◌, leb, ltb}

-- the ASCII code of a digit below 16: `0` to `9`, then `A` to `F`
abbrev pub glyph : ℕ → ℕ
glyph d = cond (ltb d 10) (48 + d) (55 + d)

-- the last k digits of n in base b
abbrev pub digits : ℕ → ℕ → ℕ → List ℕ
digits b zero n = []
digits b (suc k) n = digits b k (n / b) ++ (glyph (n % b) ∷ [])

-- how many decimal digits n has, of at most k + 1
abbrev pub places_within : ℕ → ℕ → ℕ
places_within zero n = 1
places_within (suc k) n = cond (ltb n 10) 1 (suc (places_within k (n / 10)))

-- how many it has; 20 hold every number of 64 bits
abbrev pub places_of : ℕ → ℕ
places_of n = places_within 19 n

-- a number in decimal, with no zero in front
abbrev pub decimal_of : ℕ → List ℕ
decimal_of n = digits 10 (places_of n) n

-- ## Read back

abbrev pub within : ℕ → ℕ → ℕ → Bool
within low high c = leb low c && leb c high

-- what a digit stands for: `0` to `9`, `A` to `F`, `a` to `f`; 16 for any other byte
abbrev pub digit_of : ℕ → ℕ
digit_of c = cond (within 48 57 c) (c - 48) (cond (within 65 70 c) (c - 55) (cond (within 97 102 c) (c - 87) 16))

-- the number of some digits in base b, after the number n
abbrev pub value_after : ℕ → ℕ → List ℕ → ℕ
value_after b n [] = n
value_after b n (c ∷ cs) = value_after b (n * b + digit_of c) cs

abbrev pub value_of : ℕ → List ℕ → ℕ
value_of b cs = value_after b 0 cs
