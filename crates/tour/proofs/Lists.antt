-- Laws of lists by a key that ascends: what lies above the key at a place is the rest of the list, and how tests compare that narrow each other.
use Prim.Native.Nat.{ℕ, zero, suc, ◌+◌, ◌≤◌, ◌<◌}
use mathlib.Core.Bool.{Bool, true, false, cond, false≢true, ◌&&◌}
use mathlib.Core.List.{List, [], ◌∷◌, map}
use mathlib.Core.Path.{◌≡◌, refl, ap}
use native.Mathlib.Omega.{arith}
use lib.Dec.{leb}
use lib.ListN.{length, get_or, drop}
use borrow.Author.Tests.{le-leb, lt-leb}
use Rattle.slices.specs.Lists.{keep}
use Rattle.table.proofs.Ascending.{ascending_both}
use Rattle.table.specs.Elements.{ascending}

module _ {A : Type 0} (key : A → ℕ) where
  -- whether an element is at or above a bound
  abbrev pub from : ℕ → A → Bool
  from b x = leb b (key x)

  -- all of those above the bound
  keeps-all : (b low : ℕ) (l : List A) → b ≤ suc low → ascending low (map key l) ≡ true → keep (from b) l ≡ l
  keeps-all b low [] less asc = refl
  keeps-all b low (x ∷ xs) less asc =
      let (up, rest) = ascending_both low (key x) (map key xs) asc in
      rw (le-leb b (key x) (omega (arith, up))) (ap (λ (l : List A). x ∷ l) (keeps-all b (key x) xs (omega (arith, up)) rest))

  above : (low : ℕ) (l : List A) (k : ℕ) (z : A) → k < length l → ascending low (map key l) ≡ true → low < key (get_or l k z)
  above low [] k z less asc = absurd (omega arith)
  above low (x ∷ xs) zero z less asc = (ascending_both low (key x) (map key xs) asc).0
  above low (x ∷ xs) (suc k) z less asc =
      let (up, rest) = ascending_both low (key x) (map key xs) asc in
      omega (arith, up, above (key x) xs k z (omega arith) rest)

  pub rises : (low : ℕ) (l : List A) (k : ℕ) (z : A) → suc k < length l → ascending low (map key l) ≡ true → key (get_or l k z) < key (get_or l (suc k) z)
  rises low [] k z less asc = absurd (omega arith)
  rises low (x ∷ xs) zero z less asc = above (key x) xs 0 z (omega arith) (ascending_both low (key x) (map key xs) asc).1
  rises low (x ∷ xs) (suc k) z less asc = rises (key x) xs k z (omega arith) (ascending_both low (key x) (map key xs) asc).1

  -- none up to a place, and all after it
  pub keeps_rest : (low : ℕ) (l : List A) (k : ℕ) (z : A) → k < length l → ascending low (map key l) ≡ true → keep (from (key (get_or l k z) + 1)) l ≡ drop (suc k) l
  keeps_rest low [] k z less asc = absurd (omega arith)
  keeps_rest low (x ∷ xs) zero z less asc =
      let (up, rest) = ascending_both low (key x) (map key xs) asc in
      rw (lt-leb (key x + 1) (key x) (omega arith)) (keeps-all (key x + 1) (key x) xs (omega arith) rest)
  keeps_rest low (x ∷ xs) (suc k) z less asc =
      let (up, rest) = ascending_both low (key x) (map key xs) asc in
      rw (lt-leb (key (get_or xs k z) + 1) (key x) (omega (arith, above (key x) xs k z (omega arith) rest))) (keeps_rest (key x) xs k z (omega arith) rest)

  -- what is kept by two tests, one after the other
  pub keeps_both : (f g h : A → Bool) → ((x : A) → h x ≡ (f x && g x)) → (l : List A) → keep f (keep g l) ≡ keep h l
  keeps_both f g h both [] = refl
  keeps_both f g h both (x ∷ xs) = rw (both x) (by_tests (f x) (g x) refl (keeps_both f g h both xs))
    where
      by_tests : (b c : Bool) → f x ≡ b → keep f (keep g xs) ≡ keep h xs → keep f (cond c (x ∷ keep g xs) (keep g xs)) ≡ cond (b && c) (x ∷ keep h xs) (keep h xs)
      by_tests true true e rest = rw e (ap (λ (l : List A). x ∷ l) rest)
      by_tests false true e rest = rw e rest
      by_tests true false e rest = rest
      by_tests false false e rest = rest

  -- of two tests within a third, one leaves out no more of the other than of the third, and keeps no more of it than of all
  pub narrows : (wide near test : A → Bool) → ((x : A) → near x ≡ true → wide x ≡ true) → ((x : A) → test x ≡ true → wide x ≡ true) → (l : List A)
      → (length (keep test l) + length (keep near l) ≤ length (keep wide l) + length (keep near (keep test l))) × (length (keep near (keep test l)) ≤ length (keep near l))
  narrows wide near test near_in test_in [] = (omega arith, omega arith)
  narrows wide near test near_in test_in (x ∷ xs) =
      by_tests (wide x) (near x) (test x) refl (near_in x) (test_in x) (narrows wide near test near_in test_in xs)
    where
      by_tests : (w n t : Bool) → near x ≡ n → (n ≡ true → w ≡ true) → (t ≡ true → w ≡ true)
          → (length (keep test xs) + length (keep near xs) ≤ length (keep wide xs) + length (keep near (keep test xs))) × (length (keep near (keep test xs)) ≤ length (keep near xs))
          → (length (cond t (x ∷ keep test xs) (keep test xs)) + length (cond n (x ∷ keep near xs) (keep near xs))
          ≤ length (cond w (x ∷ keep wide xs) (keep wide xs)) + length (keep near (cond t (x ∷ keep test xs) (keep test xs))))
          × (length (keep near (cond t (x ∷ keep test xs) (keep test xs))) ≤ length (cond n (x ∷ keep near xs) (keep near xs)))
      by_tests true true true e n_in t_in rest = rw e (omega (arith, rest.0), omega (arith, rest.1))
      by_tests true true false e n_in t_in rest = (omega (arith, rest.0), omega (arith, rest.1))
      by_tests true false true e n_in t_in rest = rw e (omega (arith, rest.0), rest.1)
      by_tests true false false e n_in t_in rest = (omega (arith, rest.0), rest.1)
      by_tests false true t e n_in t_in rest = absurd (false≢true (n_in refl))
      by_tests false false true e n_in t_in rest = absurd (false≢true (t_in refl))
      by_tests false false false e n_in t_in rest = rest

  -- how many are kept goes by the keys alone
  pub kept_keys : (b : ℕ) (l : List A) → length (keep (from b) l) ≡ length (keep (leb b) (map key l))
  kept_keys b [] = refl
  kept_keys b (x ∷ xs) = by_test (leb b (key x)) (kept_keys b xs)
    where
      by_test : (t : Bool) → length (keep (from b) xs) ≡ length (keep (leb b) (map key xs))
          → length (cond t (x ∷ keep (from b) xs) (keep (from b) xs)) ≡ length (cond t (key x ∷ keep (leb b) (map key xs)) (keep (leb b) (map key xs)))
      by_test true e = ap suc e
      by_test false e = e
