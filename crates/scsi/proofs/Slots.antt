-- What stands at a number below another.
use Prim.Native.Nat.{ℕ, ◌<◌}
use mathlib.Core.Bool.{Bool, true, false, cond}
use mathlib.Core.Path.{◌≡◌, refl, ap, ◌∙◌}
use lib.Dec.{ltb}
use borrow.Author.Tests.{ltb-true}
use Rattle.std.proofs.Common.{None, Some}
use Rattle.layout.specs.declared.Descriptor.{Descriptor}

-- what stands at a number below n, alike in both
pub slots_alike : (m n : ℕ) → m ≡ n → (d e : Descriptor) (k : ℕ) → (k < n → d ≡ e) → cond (ltb k m) (Some d) None ≡ cond (ltb k n) (Some e) None
slots_alike m n same d e k kept = ap (λ (x : ℕ). cond (ltb k x) (Some d) None) same ∙ by_test (ltb k n) refl
  where
    by_test : (b : Bool) → ltb k n ≡ b → cond b (Some d) None ≡ cond b (Some e) None
    by_test true y = ap Some (kept (ltb-true k n y))
    by_test false y = refl
