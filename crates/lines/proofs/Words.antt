-- Laws of a line's words.
use Prim.Native.Nat.{ℕ, suc, ◌-◌, ◌≤◌}
use mathlib.Core.Bool.{Bool, true, false, cond}
use mathlib.Core.List.{List, [], ◌∷◌, ◌++◌}
use mathlib.Core.Path.{◌≡◌, refl, sym, ap, ◌∙◌}
use native.Mathlib.Omega.{arith}
use lib.Dec.{eqb}
use lib.ListN.{length, take, drop, length-append, length-drop}
use lib.Seq.{take-append_seam}
use borrow.Author.Tests.{ne_eqb}
use Rattle.std.specs.Str.{bytes_eq}
use Rattle.lines.specs.Parts.{is_other, drop_while, take_while, from_word, word_at, is_empty, named}

-- ## A word

take_then_drop : (f : ℕ → Bool) (l : List ℕ) → take_while f l ++ drop_while f l ≡ l
take_then_drop f [] = refl
take_then_drop f (b ∷ l) = by_test (f b) (take_then_drop f l)
  where
    by_test : (t : Bool) → take_while f l ++ drop_while f l ≡ l → cond t (b ∷ take_while f l) [] ++ cond t (drop_while f l) (b ∷ l) ≡ b ∷ l
    by_test true e = ap (λ (m : List ℕ). b ∷ m) e
    by_test false e = refl

-- a part that ends where the rest does
part_taken : (f : ℕ → Bool) (l : List ℕ) (a e : ℕ) → e ≤ length l → drop e l ≡ drop_while f (drop a l) → take (e - a) (drop a l) ≡ take_while f (drop a l)
part_taken f l a e h so =
    let m : List ℕ = drop a l in
    let whole : take_while f m ++ drop_while f m ≡ m = take_then_drop f m in
    let long : length (take_while f m) ≡ e - a = omega (arith, ap length whole, length-append (take_while f m) (drop_while f m), ap length so, length-drop a l, length-drop e l) in
    rw (← long) (ap (take (length (take_while f m))) (sym whole) ∙ take-append_seam (take_while f m) (drop_while f m))

-- word k goes from where it starts to the next space
module _ (l : List ℕ) (k a : ℕ) (so : drop a l ≡ from_word k l) (m : ℕ) (past : drop m l ≡ drop_while is_other (drop a l)) where
  pub this_word : m ≤ length l → take (m - a) (drop a l) ≡ word_at k l
  unfolding word_at
  this_word h = part_taken is_other l a m h past ∙ ap (take_while is_other) so

-- ## A line's name

empty-length : (l : List ℕ) → eqb (length l) 0 ≡ is_empty l
empty-length [] = refl
empty-length (b ∷ l) = ne_eqb (suc (length l)) 0 (λ e. omega arith)

module _ (l name w : List ℕ) (n : ℕ) (is_w : w ≡ word_at 0 l) (a : Bool) (is_a : a ≡ bytes_eq w name) where
  pub name_other : a ≡ false → a ≡ named name n l
  unfolding named
  name_other y = sym (rw (← is_w, ← is_a, y))

  pub name_this : a ≡ true → (z : List ℕ) → z ≡ word_at n l → (r : Bool) → r ≡ eqb (length z) 0 → r ≡ named name n l
  unfolding named
  name_this y z is_z r is_r = is_r ∙ empty-length z ∙ sym (rw (← is_w, ← is_a, y, is_z))
