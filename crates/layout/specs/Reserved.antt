-- Document 01, "The reader": "Reserved bytes are not looked at." What is looked at of the byte b at a place of a header and of a descriptor,
-- the place counted from its own first byte. What is reserved counts as 0.
use Rattle.std.specs.Prelude.{ℕ, ◌%◌, Bool, cond, ◌&&◌, ◌||◌, List, ◌≡◌, eqb, leb, get_or}

-- a place from low to high
abbrev pub among : ℕ → ℕ → ℕ → Bool
among low high at = leb low at && leb at high

-- "0..3 length of the list N; 4..7 returned ..; 8..11 noted element or 0; 12..13 limit; 14..15 number at FFh"; 16..31 are reserved
abbrev pub in_header : ℕ → ℕ → ℕ
in_header at b = cond (among 0 15 at) b 0

-- "4..7 identifier; 13 bit 0 restoration allowed ..; 14 type; 15 health; 16..23 block count"; the rest is reserved, and 13's other bits
abbrev pub in_descriptor : ℕ → ℕ → ℕ
in_descriptor at b = cond (among 4 7 at || among 14 23 at) b (cond (eqb at 13) (b % 2) 0)

-- ## Alike but for what is reserved: what two slices start with, as headers and as descriptors; a byte past the end counts as 0

abbrev pub HeadersAlike : List ℕ → List ℕ → Type 0
HeadersAlike s t = (at : ℕ) → in_header at (get_or s at 0) ≡ in_header at (get_or t at 0)

abbrev pub DescriptorsAlike : List ℕ → List ℕ → Type 0
DescriptorsAlike s t = (at : ℕ) → in_descriptor at (get_or s at 0) ≡ in_descriptor at (get_or t at 0)
