-- The numbers of an image, read: a law for each way out.
use Prim.Native.Nat.{ℕ}
use mathlib.Core.Bool.{Bool, true, false}
use mathlib.Core.Path.{◌≡◌, sym, ap, ◌∙◌}
use borrow.Author.Tests.{ne_eqb}
use Rattle.cells.specs.declared.Mark.TheVariants.{Clear, Set}
use Rattle.cells.specs.declared.Mark.{Mark}
use Rattle.cells.specs.declared.Note.TheVariants.{Empty, Full}
use Rattle.cells.specs.declared.Note.{Note}
use Rattle.cells.specs.declared.Position.TheVariants.{Wind1}
use Rattle.cells.specs.declared.Position.{Position}
use Rattle.cells.specs.declared.Removal.{Removal}
use Rattle.paper.specs.Flags.{is_on}
use Rattle.paper.specs.declared.Security.TheVariants.{Locked}
use Rattle.paper.specs.declared.Security.{Security}
use Rattle.image.specs.Reading.{security_of, mark_of, note_of, position_of, removal_in, device_of}
use Rattle.image.specs.declared.Image.{Image}

-- ## A number that a `match` has told, or none of those that it names

pub state_told : {n x : ℕ} {s : Security} → n ≡ x → s ≡ security_of x → s ≡ security_of n
state_told e q = q ∙ sym (ap security_of e)

pub state_other : {n : ℕ} → (n ≡ 1 → ⊥) → (n ≡ 2 → ⊥) → Locked ≡ security_of n
state_other a b = simp (ne_eqb _ _ a, ne_eqb _ _ b)

pub place-told : {n x : ℕ} {p : Position} → n ≡ x → p ≡ position_of x → p ≡ position_of n
place-told e q = q ∙ sym (ap position_of e)

pub place_other : {n : ℕ} → (n ≡ 0 → ⊥) → (n ≡ 1 → ⊥) → (n ≡ 2 → ⊥) → (n ≡ 3 → ⊥) → (n ≡ 4 → ⊥) → (n ≡ 6 → ⊥) → (n ≡ 7 → ⊥)
    → (n ≡ 8 → ⊥) → Wind1 ≡ position_of n
place_other a b c d e f g h =
    simp (ne_eqb _ _ a, ne_eqb _ _ b, ne_eqb _ _ c, ne_eqb _ _ d, ne_eqb _ _ e, ne_eqb _ _ f, ne_eqb _ _ g, ne_eqb _ _ h)

-- ## A flag

module _ (flag : ℕ) (b : Bool) (is_b : b ≡ is_on flag) where
  pub mark_set : b ≡ true → Set ≡ mark_of flag
  mark_set y = sym (rw (sym is_b ∙ y))

  pub mark_clear : b ≡ false → Clear ≡ mark_of flag
  mark_clear n = sym (rw (sym is_b ∙ n))

  pub note_full : (w : Removal) → b ≡ true → Full w ≡ note_of flag w
  note_full w y = sym (rw (sym is_b ∙ y))

  pub note_empty : (w : Removal) → b ≡ false → Empty ≡ note_of flag w
  note_empty w n = sym (rw (sym is_b ∙ n))

-- ## The device

pub device_read : (i : Image) (m : Mark) (n : Note) (p : Position) → m ≡ mark_of i.failed → n ≡ note_of i.full (removal_in i) → p ≡ position_of i.position
    → record {
      table = record { parts = i.parts; count = i.count; limit = i.limit };
      cells = record { native = i.native; accessible = i.accessible; healths = i.healths; failed = m; note = n };
      position = p;
    } ≡ device_of i
unfolding device_of
device_read i m n p is_m is_n is_p =
    λ k.
    record {
      table = record { parts = i.parts; count = i.count; limit = i.limit };
      cells = record { native = i.native; accessible = i.accessible; healths = i.healths; failed = is_m k; note = is_n k };
      position = is_p k;
    }
