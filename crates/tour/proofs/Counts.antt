-- How many requests a list takes, 15 elements to a request at least.
use Prim.Native.Nat.{ℕ, zero, suc, ◌+◌, ◌*◌, ◌≤◌}
use native.Mathlib.Omega.{arith}
use borrow.Author.Tests.{ne_eqb}
use Rattle.tour.specs.Tour.{requests_for}

-- an empty list takes one too
pub most : ℕ → ℕ
most zero = 1
most (suc n) = suc n

pub most_some : (n : ℕ) → (1 ≤ most n) × (n ≤ most n)
unfolding most
most_some zero = (omega arith, omega arith)
most_some (suc n) = (omega arith, omega arith)

pub most_within : (n k : ℕ) → requests_for n ≤ k → most n ≤ 15 * k
unfolding most
most_within zero k less = omega arith
most_within (suc n) k less = omega (arith, rw (ne_eqb (suc n) 0 (λ e. omega (arith, e))) at less)

pub within_most : (n k : ℕ) → 15 * k ≤ 14 + most n → k ≤ requests_for n
unfolding most
within_most zero k less = omega arith
within_most (suc n) k less = rw (ne_eqb (suc n) 0 (λ e. omega (arith, e))) (omega arith)

pub needs_most : (n k : ℕ) → 1 ≤ k → n ≤ 15 * k → requests_for n ≤ k
needs_most zero k some less = some
needs_most (suc n) k some less = rw (ne_eqb (suc n) 0 (λ e. omega (arith, e))) (omega arith)
