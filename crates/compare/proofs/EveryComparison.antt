-- What holds of every comparison (specs/Promises), but for the walk.
use Prim.Native.Nat.{ℕ, zero, suc, ◌≤◌, ◌<◌}
use mathlib.Core.Bool.{Bool, true, false, cond}
use mathlib.Core.List.{List, [], ◌∷◌, ◌++◌, map}
use mathlib.Core.Path.{◌≡◌, refl, sym, ap, subst, ◌∙◌}
use native.Mathlib.Omega.{arith}
use lib.Dec.{eqb}
use borrow.Author.Tests.{eqb-true, eqb-false}
use Rattle.paper.specs.declared.ElementId.{ElementId}
use Rattle.reach.specs.Pages.{count_of, element_at, bound_of, end_of}
use Rattle.compare.specs.Differences.{alike, Standing, absent, stands, standing_in, standing, difference, difference_at, differences_in, differences_of}
use Rattle.compare.specs.Promises.{StandsFor, id_of, Ascending, EachOnce}
use Rattle.compare.specs.declared.Line.TheVariants.{OnlyOlder, OnlyNewer, Changed}
use Rattle.compare.specs.declared.Line.{Line}
use Rattle.compare.proofs.Ascending.{id_at}

-- ## Standings

-- what a standing says of an identifier, among the first n descriptors
Says : List ℕ → ℕ → ElementId → Standing → Type 0
Says s n id absent = (k : ℕ) → k < n → (element_at s k).id ≡ id → ⊥
Says s n id (stands k) = (k < n) × ((element_at s k).id ≡ id)

same : (a b : ElementId) → a.0 ≡ b.0 → a ≡ b
same a b e = λ i. record { 0 = e i }

says : (s : List ℕ) (n : ℕ) (id : ElementId) → Says s n id (standing_in s n id)
unfolding Says
says s zero id = λ k l e. omega arith
says s (suc n) id = by_test (eqb (id_at s n) id.0) refl (standing_in s n id) (says s n id)
  where
    by_test : (b : Bool) → eqb (id_at s n) id.0 ≡ b → (x : Standing) → Says s n id x → Says s (suc n) id (cond b (stands n) x)
    by_test true p x h = (omega arith, same _ _ (eqb-true _ _ p))
    by_test false p (stands k) (l, e) = (omega arith, e)
    by_test false p absent h = λ k l e. other k l e (eqb k n) refl
      where
        other : (k : ℕ) → k < suc n → (element_at s k).id ≡ id → (b : Bool) → eqb k n ≡ b → ⊥
        other k l e true r = eqb-false _ _ p (ap (id_at s) (sym (eqb-true k n r)) ∙ ap (λ (x : ElementId). x.0) e)
        other k l e false r = h k (omega (arith, eqb-false k n r)) e

pub stands_for : StandsFor
unfolding standing Says
stands_for s id k = (
  λ e. subst (Says s (count_of s) id) e (says s (count_of s) id),
  λ e. subst (Says s (count_of s) id) e (says s (count_of s) id) k,
)

-- ## Each once

ascending_lower : (a b : ℕ) (xs : List ElementId) → a ≤ b → Ascending b xs → Ascending a xs
ascending_lower a b [] l r = tt
ascending_lower a b (x ∷ xs) l (m, r) = (omega arith, r)

module _ (s t : List ℕ) where
  ascending-after : (id : ElementId) (low : ℕ) (rest : List Line) → low < id.0 → Ascending id.0 (map (id_of s t) rest)
      → Ascending low (map (id_of s t) (difference_at s t id ++ rest))
  unfolding difference_at
  ascending-after id low rest l r =
      by_standings (standing s id) (standing t id) (λ k e. ((stands_for s id k).0 e).1) (λ k e. ((stands_for t id k).0 e).1)
    where
      first : (m : Line) → id_of s t m ≡ id → Ascending low (map (id_of s t) (m ∷ rest))
      first m e = subst (λ (x : ElementId). (low < x.0) × Ascending x.0 (map (id_of s t) rest)) (sym e) (l, r)

      none : Ascending low (map (id_of s t) rest)
      none = ascending_lower low id.0 (map (id_of s t) rest) (omega (arith, l)) r

      by_alike : (b : Bool) (m : Line) → id_of s t m ≡ id → Ascending low (map (id_of s t) (cond b [] (m ∷ []) ++ rest))
      by_alike true m e = none
      by_alike false m e = first m e

      by_standings : (x y : Standing) → ((k : ℕ) → x ≡ stands k → (element_at s k).id ≡ id) → ((k : ℕ) → y ≡ stands k → (element_at t k).id ≡ id)
          → Ascending low (map (id_of s t) (difference s t x y ++ rest))
      by_standings absent absent p q = none
      by_standings (stands i) absent p q = first (OnlyOlder i) (p i refl)
      by_standings absent (stands j) p q = first (OnlyNewer j) (q j refl)
      by_standings (stands i) (stands j) p q =
          by_alike (alike (element_at s i) (element_at t j)) (Changed (record { older = i; newer = j })) (q j refl)

  ascending_in : (n low : ℕ) → Ascending low (map (id_of s t) (differences_in s t (suc low) n))
  unfolding differences_in
  ascending_in zero low = tt
  ascending_in (suc n) low = ascending-after (record { 0 = suc low }) low (differences_in s t (suc (suc low)) n) (omega arith) (ascending_in n (suc low))

pub each_once : EachOnce
unfolding differences_of
each_once s t = ascending_in s t (end_of (bound_of s t)).0 0
