-- The padding read as a part of the page: a byte that is set, and one that is clear.
use Prim.Native.Nat.{ℕ, ◌+◌, ◌-◌, ◌<◌}
use mathlib.Core.List.{List}
use mathlib.Core.Path.{◌≡◌, sym, ◌∙◌}
use native.Mathlib.Omega.{arith}
use lib.ListN.{length, get_or, take, drop, length-take, length-drop}
use lib.Seq.{get_or-take, get_or-drop}
use borrow.Author.Tests.{eq-eqb, ne_eqb}
use Rattle.std.proofs.Common.{Ok, Err}
use Rattle.offences.proofs.First.{first_more, first_found}
use Rattle.offences.specs.First.{first_below}
use Rattle.reader.specs.Page.{padding_at}

module _ (s : List ℕ) (from i : ℕ) where
  abbrev part : List ℕ
  part = take (length s - from) (drop from s)

  within : i < length part → i < length s - from
  within less = omega (arith, length-take {A = ℕ}, length-drop {A = ℕ})

  read : i < length part → get_or part i 0 ≡ get_or s (from + i) 0
  read less = get_or-take (length s - from) (drop from s) i 0 (within less) ∙ get_or-drop from s i 0

  pub padding_found : i < length part → (get_or part i 0 ≡ 0 → ⊥) → first_below i (padding_at s from) ≡ Ok tt
      → Err (record { 0 = from + i }) ≡ first_below (length s - from) (padding_at s from)
  padding_found less set before = sym (first_found (padding_at s from) (length s - from) i _ before (rw (ne_eqb _ _ (λ e. set (read less ∙ e)))) (within less))

  pub padding_clear : i < length part → get_or part i 0 ≡ 0 → first_below i (padding_at s from) ≡ Ok tt → first_below (i + 1) (padding_at s from) ≡ Ok tt
  padding_clear less clear before = first_more (padding_at s from) i before (rw (eq-eqb _ _ (sym (read less) ∙ clear)))
