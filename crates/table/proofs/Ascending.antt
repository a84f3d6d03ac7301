-- Ascending identifiers.
use Prim.Native.Nat.{ℕ, zero, suc, ◌≤◌, ◌<◌}
use mathlib.Core.Bool.{Bool, true, false, cond, true≢false, ◌&&◌}
use mathlib.Core.List.{List, [], ◌∷◌, map}
use mathlib.Core.Path.{◌≡◌, refl, sym}
use native.Mathlib.Omega.{arith}
use lib.Dec.{ltb}
use lib.ListN.{length, get_or}
use borrow.Author.Tests.{lt-ltb, ltb-true}
use Rattle.slices.specs.Lists.{keep}
use Rattle.table.specs.Elements.{ascending}

pub both : (a b : Bool) → (a && b) ≡ true → (a ≡ true) × (b ≡ true)
both true b e = (refl, e)
both false b e = absurd (true≢false (sym e))

pub ascending_both : (low x : ℕ) (xs : List ℕ) → ascending low (x ∷ xs) ≡ true → (low < x) × (ascending x xs ≡ true)
ascending_both low x xs q = let two = both (ltb low x) (ascending x xs) q in (ltb-true low x two.0, two.1)

-- on an ascending list the identifier at a place lies above those before it
pub ascending_low : (low : ℕ) (ids : List ℕ) (i : ℕ) → ascending low ids ≡ true → i < length ids → low < get_or ids i 0
ascending_low low [] i q h = absurd (omega arith)
ascending_low low (x ∷ xs) zero q h = (ascending_both low x xs q).0
ascending_low low (x ∷ xs) (suc i) q h =
    let two = ascending_both low x xs q in
    let above : x < get_or xs i 0 = ascending_low x xs i two.1 (omega arith) in
    let up : low < x = two.0 in
    omega arith

-- ## Of those kept

ascending_from : (low high : ℕ) (l : List ℕ) → low ≤ high → ascending high l ≡ true → ascending low l ≡ true
ascending_from low high [] h e = refl
ascending_from low high (x ∷ xs) h e =
    let b = ascending_both high x xs e in
    rw (lt-ltb low x (omega (arith, b.0))) b.1

-- of elements by a key
pub ascending-keep : {A : Type 0} (key : A → ℕ) (f : A → Bool) (low : ℕ) (l : List A) → ascending low (map key l) ≡ true → ascending low (map key (keep f l)) ≡ true
ascending-keep key f low [] e = refl
ascending-keep key f low (x ∷ xs) e =
    let b = both (ltb low (key x)) (ascending (key x) (map key xs)) e in
    one (f x) b.0 (ascending-keep key f (key x) xs b.1)
  where
    one : (t : Bool) → ltb low (key x) ≡ true → ascending (key x) (map key (keep f xs)) ≡ true → ascending low (map key (cond t (x ∷ keep f xs) (keep f xs))) ≡ true
    one true up r = rw up r
    one false up r = let less = ltb-true low (key x) up in ascending_from low (key x) (map key (keep f xs)) (omega (arith, less)) r
