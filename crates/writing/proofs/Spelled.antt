-- A short text at the end of 20 bytes; digits from the last to the first, and what each division puts in front.
use Prim.Native.Nat.{ℕ, zero, suc, ◌+◌, ◌-◌, ◌/◌, ◌%◌, ◌≤◌, ◌<◌, min}
use mathlib.Core.Bool.{Bool, true, false, cond, false≢true}
use mathlib.Core.List.{List, [], ◌∷◌, ◌++◌}
use mathlib.Core.Path.{◌≡◌, refl, sym, ap, ◌∙◌}
use native.Mathlib.Nat.{mod-lt}
use native.Mathlib.Numerals.{add-one}
use native.Mathlib.Omega.{arith}
use lib.Dec.{lit<, eqb}
use lib.ListN.{length, get_or, take, drop, set, replicate, length-append, length-replicate, length-drop}
use lib.Seq.{take_all, drop_at}
use borrow.Author.Tests.{eqb-true, eqb-false}
use Rattle.slices.specs.Lists.{fits, stored, ended}
use Rattle.text.proofs.Digits.{glyph_low, length_digits, Counted, counted_next, counted_all}
use Rattle.text.specs.Digits.{glyph, digits, places_of, decimal_of}
use Rattle.text.specs.Text.{ascii}
use Rattle.writing.specs.Private.{Puts, spelled, shown}
use Rattle.writing.specs.Writing.{number_line}
use Rattle.writing.specs.declared.Spelling.{Spelling}
use Rattle.writing.proofs.Puts.{puts_one, puts_more, whole_stored, whole_ended}

-- ## Hexadecimal

-- a test holds below n
all_below : ℕ → (ℕ → Bool) → Bool
all_below zero f = true
all_below (suc n) f = cond (f n) (all_below n f) false

each_below : (n : ℕ) (f : ℕ → Bool) → all_below n f ≡ true → (d : ℕ) → d < n → f d ≡ true
unfolding all_below
each_below zero f all d l = absurd (omega arith)
each_below (suc n) f all d l = by_tests (f n) refl all (eqb d n) refl (λ rest. each_below n f rest d)
  where
    by_tests : (x : Bool) → f n ≡ x → cond x (all_below n f) false ≡ true → (y : Bool) → eqb d n ≡ y → (all_below n f ≡ true → d < n → f d ≡ true) → f d ≡ true
    by_tests false p rest y e g = absurd (false≢true rest)
    by_tests true p rest true e g = ap f (eqb-true d n e) ∙ p
    by_tests true p rest false e g = g rest (omega (arith, eqb-false d n e))

glyph_there : (d : ℕ) → d < 16 → get_or (ascii "0123456789ABCDEF") d 0 ≡ glyph d
unfolding all_below
glyph_there d l = eqb-true _ _ (each_below 16 (λ k. eqb (get_or (ascii "0123456789ABCDEF") k 0) (glyph k)) refl d l)

-- the digits of a byte, as they are looked up
abbrev looked : ℕ → ℕ
looked d = get_or (ascii "0123456789ABCDEF") d 0

digit_there : (d n : ℕ) → d ≡ n % 16 → looked d ≡ glyph (n % 16)
digit_there d n e = ap looked e ∙ glyph_there (n % 16) (mod-lt n (lit< tt))

pub two_there : (x : ℕ) → x < 256 → looked (x / 16) ∷ looked (x % 16) ∷ [] ≡ digits 16 2 x
two_there x small = λ i. digit_there (x / 16) (x / 16) (omega arith) i ∷ digit_there (x % 16) x refl i ∷ []

pub pair_there : (x y : ℕ) → x < 256 → y < 256 → looked (x / 16) ∷ looked (x % 16) ∷ looked (y / 16) ∷ looked (y % 16) ∷ [] ≡ digits 16 2 x ++ digits 16 2 y
pair_there x y small less i = two_there x small i ++ two_there y less i

-- of the low byte of y, by what of x is left
high_there : (y n : ℕ) → y / 16 ≡ n → looked (y % 256 / 16) ≡ glyph (n % 16)
high_there y n e = digit_there (y % 256 / 16) n (omega arith)

low_there : (y n : ℕ) → y ≡ n → looked (y % 256 % 16) ≡ glyph (n % 16)
low_there y n e = digit_there (y % 256 % 16) n (omega arith)

pub eight_there : (x : ℕ)
    → looked (x / 256 / 256 / 256 % 256 / 16) ∷ looked (x / 256 / 256 / 256 % 256 % 16) ∷ looked (x / 256 / 256 % 256 / 16) ∷ looked (x / 256 / 256 % 256 % 16)
    ∷ looked (x / 256 % 256 / 16) ∷ looked (x / 256 % 256 % 16) ∷ looked (x % 256 / 16) ∷ looked (x % 256 % 16) ∷ []
    ≡ digits 16 8 x
eight_there x i =
    high_there (x / 256 / 256 / 256) (x / 16 / 16 / 16 / 16 / 16 / 16 / 16) (omega arith) i
    ∷ low_there (x / 256 / 256 / 256) (x / 16 / 16 / 16 / 16 / 16 / 16) (omega arith) i
    ∷ high_there (x / 256 / 256) (x / 16 / 16 / 16 / 16 / 16) (omega arith) i
    ∷ low_there (x / 256 / 256) (x / 16 / 16 / 16 / 16) (omega arith) i
    ∷ high_there (x / 256) (x / 16 / 16 / 16) (omega arith) i
    ∷ low_there (x / 256) (x / 16 / 16) (omega arith) i
    ∷ high_there x (x / 16) refl i
    ∷ low_there x x refl i
    ∷ []

-- ## Decimal

-- what is left of n after k divisions
abbrev pub left : ℕ → ℕ → ℕ
left zero n = n
left (suc k) n = left k (n / 10)

left_next : (k n : ℕ) → left k n / 10 ≡ left (suc k) n
left_next zero n = refl
left_next (suc k) n = left_next k (n / 10)

digits-front : (k n : ℕ) → digits 10 (suc k) n ≡ glyph (left k n % 10) ∷ digits 10 k n
digits-front zero n = refl
digits-front (suc k) n = ap (λ (l : List ℕ). l ++ (glyph (n % 10) ∷ [])) (digits-front k (n / 10))

set_front : (j a : ℕ) (l : List ℕ) → set (replicate (suc j) 0 ++ l) j a ≡ replicate j 0 ++ (a ∷ l)
set_front zero a l = refl
set_front (suc j) a l = ap (λ (t : List ℕ). 0 ∷ t) (set_front j a l)

-- m digits stand at the end of t, and `rest` has the others
abbrev pub Spelled : ℕ → List ℕ → ℕ → ℕ → Type 0
Spelled n t rest m = (t ≡ replicate (20 - m) 0 ++ digits 10 m n) × (rest ≡ left m n) × Counted n rest (m + 1)

module _ (n : ℕ) (t : List ℕ) (rest m : ℕ) (so : Spelled n t rest m) where
  pub spelled_room : m ≤ 19
  spelled_room = let few : m + 1 ≤ 20 = so.2.1 in omega arith

  -- one digit more
  more : set t (19 - m) (48 + rest % 10) ≡ replicate (20 - (m + 1)) 0 ++ digits 10 (m + 1) n
  more =
      let before : 20 - m ≡ suc (19 - m) = omega (arith, spelled_room) in
      let after : 20 - (m + 1) ≡ 19 - m = omega arith in
      let is_t : t ≡ replicate (suc (19 - m)) 0 ++ digits 10 m n = so.0 ∙ rw before in
      let is_glyph : 48 + rest % 10 ≡ glyph (left m n % 10) = glyph_low (rest % 10) (mod-lt rest (lit< tt)) ∙ rw so.1 in
      rw (is_t, is_glyph, after, add-one m) (set_front (19 - m) (glyph (left m n % 10)) (digits 10 m n) ∙ rw (digits-front m n))

  pub spelled_next : 10 ≤ rest → Spelled n (set t (19 - m) (48 + rest % 10)) (rest / 10) (m + 1)
  spelled_next h = (more, ap (λ (x : ℕ). x / 10) so.1 ∙ rw (add-one m) (left_next m n), counted_next n rest (m + 1) so.2 h)

  pub spelled-all : rest < 10 → record { bytes = set t (19 - m) (48 + rest); count = m + 1 } ≡ spelled (decimal_of n)
  spelled-all h =
      let one : rest ≡ rest % 10 = omega arith in
      let all : m + 1 ≡ places_of n = counted_all n rest (m + 1) so.2 h in
      let wide : length (decimal_of n) ≡ m + 1 = length_digits 10 (places_of n) n ∙ sym all in
      rw (wide, ← all) (λ i. record { bytes = (ap (λ (x : ℕ). set t (19 - m) (48 + x)) one ∙ more) i; count = m + 1 })

-- ## What is shown

shown-spelled : (l : List ℕ) → shown (spelled l) ≡ l
shown-spelled l = drop_at (replicate (20 - length l) 0) l (20 - length l) (length-replicate (20 - length l) 0)

module _ (s : Spelling) (l d : List ℕ) (at : ℕ) (is_s : s ≡ spelled l) where
  all : shown s ≡ l
  all = ap shown is_s ∙ shown-spelled l

  pub shown-stored : (x : List ℕ) → x ≡ stored d at (shown s) → x ≡ stored d at l
  shown-stored x e = e ∙ ap (stored d at) all

  pub shown-ended : (r : ℕ) → r ≡ ended d at (shown s) → r ≡ ended d at l
  shown-ended r e = e ∙ ap (ended d at) all

-- what `put` hands on
pub part_shown : (s : Spelling) (n : ℕ) → length s.bytes ≡ 20 → n ≡ min s.count 20 → take (20 - (20 - n)) (drop (20 - n) s.bytes) ≡ shown s
part_shown s n long is_n =
    let from : 20 - n ≡ 20 - s.count = omega arith in
    rw from (take_all (20 - (20 - s.count)) (drop (20 - s.count) s.bytes) (simp length-drop (omega arith)))

-- ## After a word

module _ (name d : List ℕ) (s : Spelling) (v at : ℕ) (is_s : s ≡ spelled (decimal_of v)) where
  pub field_wide : length name + s.count ≡ length (name ++ decimal_of v)
  field_wide = omega (arith, length-append name (decimal_of v), ap (λ (t : Spelling). t.count) is_s)

  module _ (t : Bool) (is_t : t ≡ fits (length name + s.count) at (length d)) (yes : t ≡ true) (x y : List ℕ) (m r : ℕ)
      (is_x : x ≡ stored d at name) (is_m : m ≡ ended d at name) (is_y : y ≡ stored x m (shown s)) (is_r : r ≡ ended x m (shown s)) where
    puts : Puts d at (name ++ decimal_of v) y r
    puts =
        puts_more d x at m name (decimal_of v) y r
        (puts_one x y m r (decimal_of v) (shown-stored s (decimal_of v) x m is_s y is_y) (shown-ended s (decimal_of v) x m is_s r is_r))
        (puts_one d x at m name is_x is_m)

    pub field_stored : y ≡ stored d at (name ++ decimal_of v)
    field_stored = whole_stored (name ++ decimal_of v) d at _ t field_wide is_t yes y r puts

    pub field_ended : r ≡ ended d at (name ++ decimal_of v)
    field_ended = whole_ended (name ++ decimal_of v) d at _ t field_wide is_t yes y r puts

module _ (name d : List ℕ) (v w at : ℕ) (is_w : w ≡ length (decimal_of v)) where
  pub line_wide : length name + (w + 1) ≡ length (number_line name v)
  line_wide = simp length-append (omega arith)

  module _ (t : Bool) (is_t : t ≡ fits (length name + (w + 1)) at (length d)) (yes : t ≡ true) (x y : List ℕ) (m r : ℕ)
      (is_x : x ≡ stored d at (name ++ decimal_of v)) (is_m : m ≡ ended d at (name ++ decimal_of v))
      (is_y : y ≡ stored x m (ascii "\n")) (is_r : r ≡ ended x m (ascii "\n")) where
    line_puts : Puts d at (number_line name v) y r
    line_puts =
        puts_more d x at m (name ++ decimal_of v) (ascii "\n") y r (puts_one x y m r (ascii "\n") is_y is_r)
        (puts_one d x at m (name ++ decimal_of v) is_x is_m)

    pub line_stored : y ≡ stored d at (number_line name v)
    line_stored = whole_stored (number_line name v) d at _ t line_wide is_t yes y r line_puts

    pub line_ended : r ≡ ended d at (number_line name v)
    line_ended = whole_ended (number_line name v) d at _ t line_wide is_t yes y r line_puts
