-- The first offence of the checks f 0 to f (n - 1): what a loop over them keeps, finds and ends with; and that it goes by these checks alone.
use Prim.Native.Nat.{ℕ, zero, suc, ◌+◌, ◌≤◌, ◌<◌}
use mathlib.Core.Logic.{⊎_elim}
use mathlib.Core.Path.{◌≡◌, refl, subst}
use native.Mathlib.Nat.{le_antisymm, le_of_suc-le-suc, not-suc-le-zero, eq-or-lt_of_le}
use native.Mathlib.Numerals.{add-one}
use native.Mathlib.Omega.{arith}
use Rattle.std.proofs.Common.{Ok, Err, Result}
use Rattle.std.specs.Prelude.{⊤}
use Rattle.offences.specs.First.{◌or_else◌, first_below}
use Rattle.offences.specs.declared.Offence.{Offence}

module _ (f : ℕ → Result ⊤ Offence) where
  -- one clean check more
  pub first_more : (i : ℕ) → first_below i f ≡ Ok tt → f i ≡ Ok tt → first_below (i + 1) f ≡ Ok tt
  first_more i h e = rw add-one (simp (h, e))

  -- an offence after clean ones
  pub first_found : (n i : ℕ) (p : Offence) → first_below i f ≡ Ok tt → f i ≡ Err p → i < n → first_below n f ≡ Err p
  first_found zero i p h e l = absurd (not-suc-le-zero l)
  first_found (suc n) i p h e l =
      ⊎_elim
      (λ q.
      let hq : first_below n f ≡ Ok tt = subst (λ (m : ℕ). first_below m f ≡ Ok tt) q h in
      let eq : f n ≡ Err p = subst (λ (m : ℕ). f m ≡ Err p) q e in
      simp (hq, eq))
      (λ q. simp (first_found n i p h e q))
      (eq-or-lt_of_le (le_of_suc-le-suc l))

  -- no check is left
  pub first_done : (n i : ℕ) → i ≤ n → n ≤ i → first_below i f ≡ Ok tt → first_below n f ≡ Ok tt
  first_done n i l g h = subst (λ (m : ℕ). first_below m f ≡ Ok tt) (le_antisymm l g) h

pub first-same : (f g : ℕ → Result ⊤ Offence) (n : ℕ) → ((k : ℕ) → k < n → f k ≡ g k) → first_below n f ≡ first_below n g
first-same f g zero same = refl
first-same f g (suc n) same = λ i. first-same f g n (λ k h. same k (omega arith)) i or_else same n (omega arith) i
