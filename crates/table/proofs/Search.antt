-- The search: what it finds among identifiers (specs/Promises), and where it stops, over any list whose elements have one.
use Prim.Native.Nat.{ℕ, zero, suc, ◌<◌}
use Rattle.std.proofs.Common.{Some, None}
use Rattle.std.specs.Bool.{then_some}
use Rattle.std.specs.List.{position, position_or_len}
use Rattle.std.proofs.lemmas.List.Quantifiers.{position-Some}
use Rattle.std.proofs.lemmas.List.Sums.{fails_before_first}
use mathlib.Core.Bool.{Bool, true, false, cond, true≢false}
use mathlib.Core.List.{List, [], ◌∷◌, map}
use mathlib.Core.Path.{◌≡◌, refl, sym, ap}
use native.Mathlib.Omega.{arith}
use lib.Dec.{eqb, ltb, leb}
use lib.ListN.{length, get_or}
use borrow.Author.Tests.{lt-ltb, le-ltb, eq-eqb, eqb-true, leb-true, leb-false, ltb-false}
use Rattle.table.specs.Promises.{HitsThere, HitsMember}
use Rattle.table.specs.Search.{place, hits}
use Rattle.table.proofs.Ascending.{ascending_both, ascending_low}

-- ## What is found

pub hits_there : HitsThere
hits_there id [] q = absurd (true≢false (sym q))
hits_there id (x ∷ xs) q = go (ltb x id) q (hits_there id xs)
  where
    go : (b : Bool) → cond b (hits id xs) (eqb x id) ≡ true → (hits id xs ≡ true → (place id xs < length xs) × (get_or xs (place id xs) 0 ≡ id))
        → (cond b (suc (place id xs)) 0 < suc (length xs)) × (get_or (x ∷ xs) (cond b (suc (place id xs)) 0) 0 ≡ id)
    go true r later = let w = later r in (omega (arith, w.0), w.1)
    go false r later = (omega arith, eqb-true x id r)

pub hits_member : HitsMember
hits_member low [] i q h = absurd (omega arith)
hits_member low (x ∷ xs) zero q h = rw (le-ltb x x (omega arith)) (eq-eqb x x refl, refl)
hits_member low (x ∷ xs) (suc i) q h =
    let two = ascending_both low x xs q in
    let later = hits_member x xs i two.1 (omega arith) in
    rw (lt-ltb x (get_or xs i 0) (ascending_low x xs i two.1 (omega arith))) (later.0, ap suc later.1)

-- ## Where it stops: at the first element that is not below

module _ {A : Type 0} (key : A → ℕ) (id : ℕ) (z : A) where
  abbrev pub reaches : A → Bool
  reaches x = leb id (key x)

  Below : List A → ℕ → Type 0
  Below xs n = (k : ℕ) → k < n → leb id (key (get_or xs k z)) ≡ false

  stops : (xs : List A) (i : ℕ) → i < length xs → leb id (key (get_or xs i z)) ≡ true → Below xs i
      → (place id (map key xs) ≡ i) × (hits id (map key xs) ≡ eqb (key (get_or xs i z)) id)
  unfolding Below
  stops [] i h at below = absurd (omega arith)
  stops (x ∷ xs) zero h at below = rw (le-ltb (key x) id (leb-true id (key x) at)) (refl, refl)
  stops (x ∷ xs) (suc i) h at below =
      let later = stops xs i (omega arith) at (λ k less. below (suc k) (omega arith)) in
      rw (lt-ltb (key x) id (leb-false id (key x) (below 0 (omega arith)))) (ap suc later.0, later.1)

  passes : (xs : List A) → Below xs (length xs) → (place id (map key xs) ≡ length xs) × (hits id (map key xs) ≡ false)
  unfolding Below
  passes [] below = (refl, refl)
  passes (x ∷ xs) below =
      let later = passes xs (λ k less. below (suc k) (omega arith)) in
      rw (lt-ltb (key x) id (leb-false id (key x) (below 0 (omega arith)))) (ap suc later.0, later.1)

  pub stopped : (xs : List A) (i : ℕ) → position reaches xs ≡ Some i
      → (place id (map key xs) ≡ i) × (hits id (map key xs) ≡ eqb (key (get_or xs i z)) id)
  unfolding Below
  stopped xs i e = let at = position-Some reaches xs i z e in stops xs i at.0 at.1 at.2

  pub passed : (xs : List A) → position reaches xs ≡ None → (place id (map key xs) ≡ length xs) × (hits id (map key xs) ≡ false)
  unfolding Below
  passed xs e = passes xs (λ k less. fails_before_first reaches xs k z (go (ltb (position_or_len reaches xs) (length xs)) refl e k less))
    where
      go : (b : Bool) → ltb (position_or_len reaches xs) (length xs) ≡ b → cond b (Some (position_or_len reaches xs)) None ≡ None
          → (k : ℕ) → k < length xs → k < position_or_len reaches xs
      go true q r k less = absurd (cc)
      go false q r k less = omega (arith, ltb-false (position_or_len reaches xs) (length xs) q)

-- what is found there if a test holds
pub chosen : {A : Type 0} (b : Bool) (x : A) → then_some b x ≡ cond b (Some x) None
chosen true x = refl
chosen false x = refl
