-- docs/BENCH.md: "Words are separated by one or more spaces (leading and trailing ones do not count; no other byte is a space)."
use Rattle.std.specs.Prelude.{ℕ, zero, suc, Bool, true, false, not, cond, ◌&&◌, ◌||◌, List, [], ◌∷◌, eqb, get_or}
use Rattle.std.specs.Str.{bytes_eq}

abbrev pub drop_while : (ℕ → Bool) → List ℕ → List ℕ
drop_while f [] = []
drop_while f (b ∷ l) = cond (f b) (drop_while f l) (b ∷ l)

abbrev pub take_while : (ℕ → Bool) → List ℕ → List ℕ
take_while f [] = []
take_while f (b ∷ l) = cond (f b) (b ∷ take_while f l) []

abbrev pub is_space : ℕ → Bool
is_space b = eqb b 32

abbrev pub is_other : ℕ → Bool
is_other b = not (is_space b)

-- a line from its word k on, the first being word 0
abbrev pub from_word : ℕ → List ℕ → List ℕ
from_word zero l = drop_while is_space l
from_word (suc k) l = drop_while is_space (drop_while is_other (from_word k l))

-- word k of a line; empty if it has no such word
unfoldable pub word_at : ℕ → List ℕ → List ℕ
word_at k l = take_while is_other (from_word k l)

abbrev pub is_empty : List ℕ → Bool
is_empty [] = true
is_empty (b ∷ l) = false

-- this name, and no more than n words; that there are no fewer the fields say, since none may be empty
unfoldable pub named : List ℕ → ℕ → List ℕ → Bool
named name n l = bytes_eq (word_at 0 l) name && is_empty (word_at n l)

-- "a line without words, or whose first word starts with `#`, is passed over"
abbrev pub is_passed : List ℕ → Bool
is_passed l = is_empty (word_at 0 l) || eqb (get_or (word_at 0 l) 0 0) 35
