-- The identifiers of a page that was accepted: they fit in it, none is 0, and they ascend.
use Prim.Native.Nat.{ℕ, zero, suc, ◌-◌, ◌*◌, ◌≤◌, ◌<◌}
use mathlib.Core.Bool.{Bool, true, false}
use mathlib.Core.List.{List}
use mathlib.Core.Path.{◌≡◌, refl, sym, subst}
use native.Mathlib.Omega.{arith}
use lib.Dec.{eqb}
use borrow.Author.Tests.{eqb-true, eqb-false}
use Rattle.reach.specs.Opening.{accepted}
use Rattle.reach.specs.Pages.{count_of, element_at}
use Rattle.reader.proofs.Taken.{Taken, taken, room}
use Rattle.reader.specs.Judgement.{read_of}
use Rattle.request.specs.Requests.{pages_of}
use Rattle.request.specs.declared.Request.{Request}
use Rattle.words.specs.declared.Order.TheVariants.{Little}

abbrev pub id_at : List ℕ → ℕ → ℕ
id_at s k = (element_at s k).id.0

pub record Ascends (s : List ℕ) : Type 0 where
  pub some : (k : ℕ) → k < count_of s → 1 ≤ id_at s k
  pub rise : (j k : ℕ) → j < k → k < count_of s → id_at s j < id_at s k

module _ (s : List ℕ) (q : Request) (is_accepted : accepted s q ≡ true) where
  pub is_taken : Taken Little s q
  unfolding accepted
  is_taken = taken Little s q (eqb-true (read_of Little s q).number 0 is_accepted)

  -- a page of p times 512 bytes has room for 16p - 1 descriptors
  pub count_room : count_of s ≤ 16 * pages_of q - 1
  unfolding count_of
  count_room = room Little s q is_taken

  above_none : (k : ℕ) → k < count_of s → 1 ≤ id_at s k
  unfolding count_of element_at
  above_none k l = (is_taken.list k l).some

  above_last : (k : ℕ) → suc k < count_of s → id_at s k < id_at s (suc k)
  unfolding count_of element_at
  above_last k l = (is_taken.list (suc k) l).rises

  above_all : (j k : ℕ) → j < k → k < count_of s → id_at s j < id_at s k
  above_all j zero l m = absurd (omega arith)
  above_all j (suc k) l m = by_test (eqb j k) refl (λ g. above_all j k g (omega arith))
    where
      by_test : (b : Bool) → eqb j k ≡ b → (j < k → id_at s j < id_at s k) → id_at s j < id_at s (suc k)
      by_test true p g = subst (λ (i : ℕ). id_at s i < id_at s (suc k)) (sym (eqb-true j k p)) (above_last k m)
      by_test false p g = omega (arith, g (omega (arith, eqb-false j k p)), above_last k m)

  pub ascends : Ascends s
  ascends = record { some = above_none; rise = above_all }
