-- Laws of the rows: one for each way out of a function, one for each turn of a loop, and how long they are.
use Prim.Native.Nat.{ℕ, zero, suc, ◌+◌, ◌-◌, ◌*◌, ◌/◌, ◌≤◌, ◌<◌}
use mathlib.Core.Bool.{Bool, true, false, cond}
use mathlib.Core.List.{List, [], ◌∷◌, ◌++◌}
use mathlib.Core.Path.{◌≡◌, refl, sym, ap, ◌∙◌}
use native.Mathlib.Numerals.{add-one}
use native.Mathlib.Omega.{arith}
use lib.Dec.{eqb, leb}
use lib.ListN.{length, take, drop, get_or, replicate, length-append, length-take, length-drop, drop_of_length-le}
use lib.Seq.{drop-cons, get_or-take}
use borrow.Author.Tests.{eq-eqb, ne_eqb, le-leb, lt-leb}
use Rattle.slices.proofs.Lists.{stored-front, stored_none, stored_each, length-flat}
use Rattle.slices.specs.Lists.{flat, fits, stored, ended}
use Rattle.text.proofs.Digits.{length_digits, length_decimal}
use Rattle.text.specs.Digits.{digits}
use Rattle.text.specs.Text.{ascii}
use Rattle.writing.proofs.Puts.{ended_none, puts_none, puts_one, puts_same, puts_more, whole_stored_in, whole_ended_in}
use Rattle.writing.specs.Private.{Puts}
use Rattle.writing.specs.Writing.{number_line, stored_in, ended_in}
use Rattle.dump.specs.Promises.{Enough}
use Rattle.dump.specs.Dump.{row_at, row_line, rows_below, is_zero, rows_shown, zeros_line, page_text, first_touched, touched_text}

-- ## A row

-- the digits of the first k bytes, over 65 newlines
abbrev pub begun : List ℕ → ℕ → List ℕ
begun s k = stored (replicate 65 10) 0 (flat (digits 16 2) (take k s))

module _ (s : List ℕ) (long : 32 ≤ length s) where
  pub row_next : (k : ℕ) (h x y : List ℕ) → k < 32 → h ≡ digits 16 2 (get_or s k 0) → y ≡ stored x (2 * k) h → x ≡ begun s k → y ≡ begun s (k + 1)
  row_next k h x y less is_h is_y is_x =
      let place : 2 * k ≡ 0 + 2 * k = omega arith in
      stored_each (digits 16 2) 2 (λ (b : ℕ). length_digits 16 2 b) s (replicate 65 10) x y 0 k 0 (omega arith) (omega arith) is_x
      (is_y ∙ (λ j. stored x (place j) (is_h j)))

  pub row-all : (k : ℕ) (x : List ℕ) → 32 ≤ k → k ≤ 32 → x ≡ begun s k → x ≡ row_line (take 32 s)
  row-all k x low high is_x =
      let all : k ≡ 32 = omega arith in
      let wide : length (flat (digits 16 2) (take 32 s)) ≡ 64 =
      length-flat (digits 16 2) 2 (λ (b : ℕ). length_digits 16 2 b) (take 32 s) ∙ simp length-take (omega arith) in
      is_x ∙ rw all (stored-front (replicate 65 10) (flat (digits 16 2) (take 32 s)) (rw wide (omega arith)) ∙ rw wide)

  module _ (k : ℕ) (less : k < 32) (so : is_zero (drop k (take 32 s)) ≡ is_zero (take 32 s)) where
    ahead : drop k (take 32 s) ≡ get_or s k 0 ∷ drop (k + 1) (take 32 s)
    ahead = rw (drop-cons (take 32 s) k 0 (simp length-take (omega arith)), get_or-take 32 s k 0 less, add-one k)

    pub zero-not : (get_or s k 0 ≡ 0 → ⊥) → false ≡ is_zero (take 32 s)
    zero-not other = sym (ap is_zero ahead ∙ rw (ne_eqb (get_or s k 0) 0 other)) ∙ so

    pub zero_next : get_or s k 0 ≡ 0 → is_zero (drop (k + 1) (take 32 s)) ≡ is_zero (take 32 s)
    zero_next e = sym (ap is_zero ahead ∙ rw (eq-eqb (get_or s k 0) 0 e)) ∙ so

  pub zero-all : (k : ℕ) → 32 ≤ k → is_zero (drop k (take 32 s)) ≡ is_zero (take 32 s) → true ≡ is_zero (take 32 s)
  zero-all k low so = sym (ap is_zero (drop_of_length-le (take 32 s) {i = k} (simp length-take (omega arith)))) ∙ so

-- ## The rows that are shown

-- each of n rows is there: the one at k, and the one before k
module _ (s row : List ℕ) (n k : ℕ) (long : 32 * n ≤ length s) where
  pub row_there : k < n → row ≡ drop (32 * k) s → 32 ≤ length row
  row_there less is_row = rw is_row (simp length-drop (omega arith))

  pub last_there : 0 < k → k ≤ n → row ≡ drop (32 * (k - 1)) s → 32 ≤ length row
  last_there some less is_row = rw is_row (simp length-drop (omega arith))

module _ (s : List ℕ) (n k : ℕ) (so : rows_shown s k ≡ rows_shown s n) (some : 0 < k) where
  last : rows_shown s k ≡ cond (is_zero (row_at s (k - 1))) (rows_shown s (k - 1)) k
  unfolding rows_shown
  last =
      let one : k ≡ suc (k - 1) = omega arith in
      ap (rows_shown s) one ∙ ap (λ (m : ℕ). cond (is_zero (row_at s (k - 1))) (rows_shown s (k - 1)) m) (sym one)

  module _ (row : List ℕ) (is_row : row ≡ drop (32 * (k - 1)) s) (t : Bool) (is_t : t ≡ is_zero (take 32 row)) where
    test : is_zero (row_at s (k - 1)) ≡ t
    test = sym (is_t ∙ rw is_row)

    pub shown_here : t ≡ false → k ≡ rows_shown s n
    shown_here e = sym (last ∙ rw (test ∙ e)) ∙ so

    pub shown_less : t ≡ true → rows_shown s (k - 1) ≡ rows_shown s n
    shown_less e = sym (last ∙ rw (test ∙ e)) ∙ so

pub shown_none : (s : List ℕ) (n k : ℕ) → rows_shown s k ≡ rows_shown s n → k ≤ 0 → k ≡ rows_shown s n
unfolding rows_shown
shown_none s n zero so none = so
shown_none s n (suc k) so none = absurd (omega arith)

-- ## The rows, one after another

pub rows_none : (s d : List ℕ) (at : ℕ) → Puts d at (rows_below s 0) d at
unfolding rows_below
rows_none s d at = puts_none d at

module _ (s row line d x y : List ℕ) (k at m r : ℕ) where
  pub rows_next : row ≡ drop (32 * k) s → line ≡ row_line (take 32 row) → y ≡ stored x m line → r ≡ ended x m line
      → Puts d at (rows_below s k) x m → Puts d at (rows_below s (k + 1)) y r
  unfolding rows_below
  rows_next is_row is_line is_y is_r so =
      let L : List ℕ = row_line (row_at s k) in
      let same : line ≡ L = is_line ∙ rw is_row in
      rw (add-one k) (puts_more d x at m (rows_below s k) L y r (puts_same x y m r line L same is_y is_r) so)

-- ## The zeros

module _ (d x : List ℕ) (n at r : ℕ) where
  pub zeros_none : n ≡ 0 → Puts d at (zeros_line n) d at
  zeros_none e = rw (eq-eqb n 0 e) (puts_none d at)

  pub zeros_puts : (n ≡ 0 → ⊥) → x ≡ stored d at (number_line (ascii "zeros ") n) → r ≡ ended d at (number_line (ascii "zeros ") n) → Puts d at (zeros_line n) x r
  zeros_puts e is_x is_r = rw (ne_eqb n 0 e) (puts_one d x at r (number_line (ascii "zeros ") n) is_x is_r)

-- ## A page

length-row : (s : List ℕ) (k : ℕ) → length (row_line (row_at s k)) ≤ 65
length-row s k =
    let wide : length (flat (digits 16 2) (row_at s k)) ≡ 2 * length (row_at s k) = length-flat (digits 16 2) 2 (λ (b : ℕ). length_digits 16 2 b) (row_at s k) in
    let few : length (row_at s k) ≤ 32 = simp length-take (omega arith) in
    rw (length-append (flat (digits 16 2) (row_at s k)) (ascii "\n"), wide) (omega arith)

pub length-rows : (s : List ℕ) (n : ℕ) → length (rows_below s n) ≤ 65 * n
unfolding rows_below
length-rows s zero = omega arith
length-rows s (suc n) = omega (arith, length-append (rows_below s n) (row_line (row_at s n)), length-rows s n, length-row s n)

length-zeros : (n : ℕ) → length (zeros_line n) ≤ 27
length-zeros n = by_test (eqb n 0)
  where
    by_test : (t : Bool) → length (cond t [] (number_line (ascii "zeros ") n)) ≤ 27
    by_test true = omega arith
    by_test false = simp length-append (omega (arith, length_decimal n))

module _ (page w : List ℕ) (n k : ℕ) (is_w : w ≡ take 65536 page) (is_n : n ≡ length w / 32) (is_k : k ≡ rows_shown w n) (less : k ≤ n) where
  is_page : page_text page ≡ rows_below w k ++ zeros_line (n - k)
  unfolding page_text
  is_page = rw (← is_w, ← is_n, ← is_k)

  pub length_page : length (page_text page) ≤ 134000
  length_page =
      let short : length w ≤ 65536 = rw is_w (simp length-take (omega arith)) in
      let few : n ≤ 2048 = omega arith in
      rw (is_page, length-append (rows_below w k) (zeros_line (n - k))) (omega (arith, length-rows w k, length-zeros (n - k)))

  module _ (d x y : List ℕ) (at m r : ℕ) (t : Bool) (is_t : t ≡ fits 134000 at (length d)) (yes : t ≡ true)
      (one : Puts d at (rows_below w k) x m) (two : Puts x m (zeros_line (n - k)) y r) where
    puts : Puts d at (page_text page) y r
    puts = rw is_page (puts_more d x at m (rows_below w k) (zeros_line (n - k)) y r two one)

    pub page_stored : y ≡ stored_in 134000 d at (page_text page)
    page_stored = whole_stored_in (page_text page) d at 134000 t is_t yes length_page y r puts

    pub page_ended : r ≡ ended_in 134000 d at (page_text page)
    page_ended = whole_ended_in (page_text page) d at 134000 t is_t yes length_page y r puts

shown_few : (s : List ℕ) (n : ℕ) → rows_shown s n ≤ n
unfolding rows_shown
shown_few s zero = omega arith
shown_few s (suc n) = by_test (is_zero (row_at s n)) (shown_few s n)
  where
    by_test : (t : Bool) → rows_shown s n ≤ n → cond t (rows_shown s n) (suc n) ≤ suc n
    by_test true few = omega arith
    by_test false few = omega arith

pub enough : Enough
enough s =
    let w : List ℕ = take 65536 s in
    length_page s w (length w / 32) (rows_shown w (length w / 32)) refl refl refl (shown_few w (length w / 32))

-- ## What was left alone

module _ (lent : List ℕ) (from i : ℕ) (so : first_touched i (drop i lent) ≡ first_touched from (drop from lent)) where
  module _ (less : i < length lent) where
    here : first_touched i (drop i lent) ≡ cond (eqb (get_or lent i 0) 0xA5) (first_touched (suc i) (drop (suc i) lent)) i
    here = rw (drop-cons lent i 0 less)

    pub touched_here : (get_or lent i 0 ≡ 0xA5 → ⊥) → i ≡ first_touched from (drop from lent)
    touched_here other = sym (here ∙ rw (ne_eqb (get_or lent i 0) 0xA5 other)) ∙ so

    pub touched_next : get_or lent i 0 ≡ 0xA5 → first_touched (i + 1) (drop (i + 1) lent) ≡ first_touched from (drop from lent)
    touched_next e = rw (add-one i) (sym (here ∙ rw (eq-eqb (get_or lent i 0) 0xA5 e)) ∙ so)

  pub touched_none : length lent ≤ i → i ≡ first_touched from (drop from lent)
  touched_none past = sym (ap (first_touched i) (drop_of_length-le lent {i = i} past)) ∙ so

module _ (lent d : List ℕ) (from at p : ℕ) (is_p : p ≡ first_touched from (drop from lent)) where
  module _ (past : length lent ≤ p) where
    none : touched_text lent from ≡ []
    unfolding touched_text
    none = rw (← is_p, le-leb (length lent) p past)

    pub untouched_stored : d ≡ stored d at (touched_text lent from)
    untouched_stored = sym (ap (stored d at) none ∙ stored_none d at)

    pub untouched_ended : at ≡ ended d at (touched_text lent from)
    untouched_ended = sym (ap (ended d at) none ∙ ended_none d at)

  module _ (inside : p < length lent) where
    line : touched_text lent from ≡ number_line (ascii "touched ") p
    unfolding touched_text
    line = rw (← is_p, lt-leb (length lent) p inside)

    pub touched_stored : (x : List ℕ) → x ≡ stored d at (number_line (ascii "touched ") p) → x ≡ stored d at (touched_text lent from)
    touched_stored x is_x = is_x ∙ sym (ap (stored d at) line)

    pub touched_ended : (r : ℕ) → r ≡ ended d at (number_line (ascii "touched ") p) → r ≡ ended d at (touched_text lent from)
    touched_ended r is_r = is_r ∙ sym (ap (ended d at) line)

pub length_touched : (lent : List ℕ) (from : ℕ) → length (touched_text lent from) ≤ 29
unfolding touched_text
length_touched lent from = by_test (leb (length lent) (first_touched from (drop from lent)))
  where
    by_test : (t : Bool) → length (cond t [] (number_line (ascii "touched ") (first_touched from (drop from lent)))) ≤ 29
    by_test true = omega arith
    by_test false = simp length-append (omega (arith, length_decimal (first_touched from (drop from lent))))
