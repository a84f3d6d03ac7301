-- docs/BENCH.md: "Numbers are hexadecimal, 1 to 16 digits in either case, and must fit their field."
use Rattle.std.specs.Prelude.{ℕ, Bool, cond, ◌&&◌, List, leb, ltb, length, Option, Some, None, option_and_then}
use Rattle.slices.specs.Lists.{all}
use Rattle.text.specs.Digits.{within, digit_of, value_of}
use Rattle.lines.specs.Parts.{word_at}

abbrev pub is_digit : ℕ → Bool
is_digit c = ltb (digit_of c) 16

-- whether a word is a number of at most `most`
abbrev pub is_number : ℕ → List ℕ → Bool
is_number most w = within 1 16 (length w) && (all is_digit w && leb (value_of 16 w) most)

unfoldable pub field_of : ℕ → List ℕ → Option ℕ
field_of most w = cond (is_number most w) (Some (value_of 16 w)) None

-- "must fit their field": word k of a line, at most `most`
unfoldable pub field_at : List ℕ → ℕ → ℕ → Option ℕ
field_at l k most = field_of most (word_at k l)

-- fields read one after another: nothing if one does not fit
infixl 10 ◌>>=◌
abbrev pub ◌>>=◌ : {A B : Type 0} → Option A → (A → Option B) → Option B
o >>= f = option_and_then f o
