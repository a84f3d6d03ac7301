-- Laws of answers and of what follows them: one for each way out of a function, and how long they are.
use Prim.Native.Nat.{ℕ, ◌+◌, ◌≤◌}
use mathlib.Core.List.{List, [], ◌∷◌, ◌++◌}
use mathlib.Core.Path.{◌≡◌, ap, ◌∙◌}
use native.Mathlib.Omega.{arith}
use lib.ListN.{length, take, get_or, length-append}
use Rattle.std.specs.Prelude.{Option, Some, None}
use Rattle.dump.proofs.Dump.{enough, length_touched}
use Rattle.dump.specs.Dump.{page_text, touched_text}
use Rattle.paper.specs.Answers.{number_of, sense_of}
use Rattle.paper.specs.declared.Answer.{Answer}
use Rattle.paper.specs.declared.Sense.{Sense}
use Rattle.slices.proofs.Lists.{length-stored}
use Rattle.slices.specs.Lists.{stored, ended}
use Rattle.text.proofs.Digits.{length_decimal}
use Rattle.text.specs.Digits.{digits, decimal_of}
use Rattle.text.specs.Text.{ascii}
use Rattle.writing.proofs.Puts.{puts_none, puts_one, puts_same, puts_more, puts_in}
use Rattle.writing.specs.Private.{Puts}
use Rattle.writing.specs.Writing.{stored_in, ended_in}
use Rattle.replies.specs.Replies.{codes_text, sense_text, answer_line, lent_text}

-- ## An answer

pub codes_laid : (s : Sense) (k a q : List ℕ) → k ≡ digits 16 2 s.key → a ≡ digits 16 2 s.asc → q ≡ digits 16 2 s.ascq
    → 32 ∷ get_or k 1 0 ∷ 47 ∷ get_or a 0 0 ∷ get_or a 1 0 ∷ 47 ∷ get_or q 0 0 ∷ get_or q 1 0 ∷ [] ≡ codes_text s
codes_laid s k a q is_k is_a is_q = rw (is_k, is_a, is_q)

module _ (sense : Option Sense) (d : List ℕ) (at : ℕ) where
  pub sense_none : sense ≡ None → Puts d at (sense_text sense) d at
  sense_none e = rw e (puts_none d at)

  pub sense_puts : (s : Sense) (t x : List ℕ) (r : ℕ) → sense ≡ Some s → t ≡ codes_text s → x ≡ stored d at t → r ≡ ended d at t
      → Puts d at (sense_text sense) x r
  sense_puts s t x r e is_t is_x is_r = rw e (puts_same d x at r t (codes_text s) is_t is_x is_r)

pub answer_puts : (a : Answer) (sense : Option Sense) (d x y z : List ℕ) (n at m k r : ℕ) → n ≡ number_of a → sense ≡ sense_of (number_of a)
    → x ≡ stored d at (decimal_of n) → m ≡ ended d at (decimal_of n) → Puts x m (sense_text sense) y k → z ≡ stored y k (ascii "\n") → r ≡ ended y k (ascii "\n")
    → Puts d at (answer_line (number_of a)) z r
unfolding answer_line
answer_puts a sense d x y z n at m k r is_n is_sense is_x is_m two is_z is_r =
    let N : List ℕ = decimal_of (number_of a) in
    let S : List ℕ = sense_text (sense_of (number_of a)) in
    let one : Puts d at N x m = puts_same d x at m (decimal_of n) N (ap decimal_of is_n) is_x is_m in
    let both : Puts d at (N ++ S) y k = puts_more d x at m N S y k (rw (← is_sense) two) one in
    puts_more d y at k (N ++ S) (ascii "\n") z r (puts_one y z k r (ascii "\n") is_z is_r) both

length_sense : (s : Option Sense) → length (sense_text s) ≤ 8
length_sense None = omega arith
length_sense (Some s) = omega arith

pub length_answer : (n : ℕ) → length (answer_line n) ≤ 29
unfolding answer_line
length_answer n = simp length-append (omega (arith, length_decimal n, length_sense (sense_of n)))

-- ## The lent buffer

-- a first line A, what was written P, and what was touched T
module _ (A P T d x y z : List ℕ) (m k r : ℕ) (short : length A ≤ 100) (long : 140000 ≤ length d) (one : Puts d 0 A x m) where
  begun : (x ≡ stored d 0 A) × (m ≡ 0 + length A)
  unfolding Puts
  begun = one (omega arith)

  room_left : m + 134000 ≤ length x
  room_left =
      let same : length x ≡ length d = ap length begun.0 ∙ length-stored d A 0 in
      omega (arith, begun.1)

  pub three_puts : y ≡ stored_in 134000 x m P → k ≡ ended_in 134000 x m P → z ≡ stored y k T → r ≡ ended y k T → Puts d 0 (A ++ P ++ T) z r
  three_puts is_y is_k is_z is_r =
      puts_more d y 0 k (A ++ P) T z r (puts_one y z k r T is_z is_r) (puts_more d x 0 m A P y k (puts_in P x y m 134000 k room_left is_y is_k) one)

pub lent_puts : (n room count : ℕ) (lent whole part d x y z : List ℕ) (m k r : ℕ) → 140000 ≤ length d → whole ≡ take room lent → part ≡ take count lent
    → Puts d 0 (answer_line n) x m → y ≡ stored_in 134000 x m (page_text part) → k ≡ ended_in 134000 x m (page_text part)
    → z ≡ stored y k (touched_text whole count) → r ≡ ended y k (touched_text whole count) → Puts d 0 (lent_text n room count lent) z r
unfolding lent_text
lent_puts n room count lent whole part d x y z m k r long is_whole is_part one is_y is_k is_z is_r =
    rw (← is_part, ← is_whole)
    (three_puts (answer_line n) (page_text part) (touched_text whole count) d x y z m k r (omega (arith, length_answer n)) long one is_y is_k is_z is_r)

pub length-lent : (n room count : ℕ) (lent : List ℕ) → length (lent_text n room count lent) ≤ 140000
unfolding lent_text
length-lent n room count lent =
    simp length-append
    (omega (arith, length_answer n, enough (take count lent), length_touched (take room lent) count))
