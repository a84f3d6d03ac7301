-- What stands of an identifier in a page whose identifiers ascend, seen from a cursor.
use Prim.Native.Nat.{ℕ, zero, suc, ◌+◌, ◌≤◌, ◌<◌}
use mathlib.Core.Bool.{Bool, true, false, cond}
use mathlib.Core.List.{List}
use mathlib.Core.Path.{◌≡◌, refl, sym, ap, ◌∙◌}
use native.Mathlib.Omega.{arith}
use lib.Dec.{eqb, ltb}
use borrow.Author.Tests.{eqb-true, eqb-false, ne_eqb, lt-ltb, ltb-true, ltb-false}
use Rattle.paper.specs.declared.ElementId.{ElementId}
use Rattle.reach.specs.Pages.{count_of}
use Rattle.compare.specs.Differences.{absent, stands, standing_in, standing}
use Rattle.compare.specs.Walk.{key_at}
use Rattle.compare.proofs.Ascending.{id_at, Ascends}
use Rattle.compare.proofs.Places.{inside}

-- ## Among the first n

module _ (s : List ℕ) (id : ElementId) where
  none_of : (n : ℕ) → ((k : ℕ) → k < n → id_at s k ≡ id.0 → ⊥) → standing_in s n id ≡ absent
  none_of zero f = refl
  none_of (suc n) f = rw (ne_eqb (id_at s n) id.0 (f n (omega arith))) (none_of n (λ k l. f k (omega arith)))

  one_of : (n k : ℕ) → k < n → id_at s k ≡ id.0 → ((j : ℕ) → j < n → id_at s j ≡ id.0 → j ≡ k) → standing_in s n id ≡ stands k
  one_of zero k l e f = absurd (omega arith)
  one_of (suc n) k l e f = by_test (eqb (id_at s n) id.0) refl (λ m. one_of n k m e (λ j i. f j (omega arith)))
    where
      by_test : (b : Bool) → eqb (id_at s n) id.0 ≡ b → (k < n → standing_in s n id ≡ stands k) → cond b (stands n) (standing_in s n id) ≡ stands k
      by_test true p g = ap stands (f n (omega arith) (eqb-true _ _ p))
      by_test false p g = g (before (eqb k n) refl)
        where
          before : (b : Bool) → eqb k n ≡ b → k < n
          before true r = absurd (eqb-false _ _ p (ap (id_at s) (sym (eqb-true k n r)) ∙ e))
          before false r = omega (arith, eqb-false k n r)

-- ## From a cursor

-- identifiers before the place are below a, those from there on are not
pub record Split (s : List ℕ) (i a : ℕ) : Type 0 where
  pub below : (k : ℕ) → k < i → k < count_of s → id_at s k < a
  pub above : (k : ℕ) → i ≤ k → k < count_of s → a ≤ id_at s k

module _ (s : List ℕ) (up : Ascends s) (i : ℕ) (end : ElementId) where
  within_is : i < count_of s → key_at s (count_of s) i end ≡ id_at s i
  unfolding key_at
  within_is l = rw (lt-ltb _ _ l)

  -- nothing from the place on is below the identifier there
  from_there : (k : ℕ) → i ≤ k → k < count_of s → key_at s (count_of s) i end ≤ id_at s k
  from_there k l m = by_test (eqb i k) refl
    where
      by_test : (b : Bool) → eqb i k ≡ b → key_at s (count_of s) i end ≤ id_at s k
      by_test true p = omega (arith, within_is (omega arith), ap (id_at s) (eqb-true i k p))
      by_test false p = omega (arith, within_is (omega arith), up.rise i k (omega (arith, eqb-false i k p)) m)

  module _ (a : ℕ) (split : Split s i a) where
    -- an identifier between the two stands nowhere
    pub between : (id : ElementId) → a ≤ id.0 → id.0 < key_at s (count_of s) i end → standing s id ≡ absent
    unfolding standing
    between id low high = none_of s id (count_of s) other
      where
        other : (k : ℕ) → k < count_of s → id_at s k ≡ id.0 → ⊥
        other k l e = by_test (ltb k i) refl
          where
            by_test : (b : Bool) → ltb k i ≡ b → ⊥
            by_test true p = omega (arith, split.below k (ltb-true _ _ p) l)
            by_test false p = omega (arith, from_there k (ltb-false _ _ p) l)

    -- up to any of them the place splits the page
    pub nearer_to : (m : ℕ) → a ≤ m → m ≤ key_at s (count_of s) i end → Split s i m
    nearer_to m low high =
        record {
          below = λ k l n. omega (arith, split.below k l n);
          above = λ k l n. omega (arith, from_there k l n);
        }

    module _ (m : ℕ) (is_m : m ≡ key_at s (count_of s) i end) (low : m ≤ end.0) where
      there : i < count_of s
      there = inside s (count_of s) i end (omega (arith, is_m))

      pub not-below : a ≤ m
      not-below = omega (arith, is_m, within_is there, split.above i (omega arith) there)

      pub stands_there : standing s (record { 0 = m }) ≡ stands i
      unfolding standing
      stands_there = one_of s (record { 0 = m }) (count_of s) i there (omega (arith, is_m, within_is there)) only
        where
          only : (j : ℕ) → j < count_of s → id_at s j ≡ m → j ≡ i
          only j l e = by_tests (ltb j i) refl (ltb i j) refl
            where
              by_tests : (x : Bool) → ltb j i ≡ x → (y : Bool) → ltb i j ≡ y → j ≡ i
              by_tests true p y r = absurd (omega (arith, is_m, within_is there, up.rise j i (ltb-true _ _ p) there))
              by_tests false p true r = absurd (omega (arith, is_m, within_is there, up.rise i j (ltb-true _ _ r) l))
              by_tests false p false r = omega (arith, ltb-false j i p, ltb-false i j r)

      pub past_it : Split s (i + 1) (m + 1)
      past_it =
          record {
            below = λ k l n. omega (arith, is_m, within_is there, before k (omega arith) n);
            above = λ k l n. omega (arith, is_m, within_is there, up.rise i k (omega arith) n);
          }
        where
          before : (k : ℕ) → k ≤ i → k < count_of s → id_at s k ≤ id_at s i
          before k l n = by_test (eqb k i) refl
            where
              by_test : (b : Bool) → eqb k i ≡ b → id_at s k ≤ id_at s i
              by_test true p = omega (arith, ap (id_at s) (eqb-true k i p))
              by_test false p = omega (arith, up.rise k i (omega (arith, eqb-false k i p)) there)
