-- A device that the code has: its types bound its numbers. A fact of a struct holds one of each field, and a fact of an array its length and
-- one of each element.
use Prim.Native.Nat.{ℕ, ◌^◌, ◌<◌}
use mathlib.Core.List.{List, [], ◌∷◌}
use mathlib.Core.Path.{◌≡◌, subst}
use native.Mathlib.Omega.{arith}
use mir.Val.{Val}
use denote.Array.{each}
use denote.Laws.{Is}
use denote.Builtin.{u8}
use denote.RattleType.{RattleType}
use denote.Shadow.{shadow}
use Rattle.cells.specs.contracts.Note as Note
use Rattle.cells.specs.declared.Note.TheVariants.{Empty, Full}
use Rattle.cells.specs.declared.Note.{Note}
use Rattle.cells.specs.declared.Removal.{Removal}
use Rattle.conduct.proofs.Fits.{one_removal}
use Rattle.conduct.specs.Fits.{PartFits, Fits}
use Rattle.datum.proofs.Datum.{Fact}
use Rattle.device.specs.declared.Device.{Device}
use Rattle.slices.specs.Lists.{Every}
use Rattle.table.specs.contracts.Part as Part
use Rattle.table.specs.declared.Part.{Part}
use Rattle.calls.proofs.Data.{device}

-- what a fact of an element tells holds of each element of an array
pub of_each : (R : RattleType) (P : R.Denot → Type 0) → ((x : R.Denot) (vs : List Val) → Is R x vs → P x)
    → (xs : List R.Denot) (us : List Val) → shadow (each R.Denot R.own_val xs us) → Every P xs
of_each R P tells [] us s = tt
of_each R P tells (x ∷ xs) [] s = absurd s
of_each R P tells (x ∷ xs) (u ∷ us) s = (tells x (u ∷ []) s.0, of_each R P tells xs us s.1)

pub part_fits : (p : Part) (vs : List Val) → Is Part.the_row p vs → PartFits p
part_fits p vs is =
    let fields = is.1.1 in
    record { id = fields.0.1.1.0.1; kind = fields.1.0.1; blocks = fields.1.1.1.1.0.1 }

note_fits : (n : Note) (vs : List Val) → Is Note.the_row n vs → (w : Removal) → n ≡ Full w → w.element.0 < 2 ^ 32
note_fits Empty vs is w q = absurd (let z : ◌≡◌ {A = ℕ} 0 1 = cc in omega arith)
note_fits (Full v) vs is w q =
    let fields = is.1.1.1.1.0.1.1 in
    subst (λ (u : Removal). u.element.0 < 2 ^ 32) (one_removal q) fields.0.1.1.0.1

pub device_fits : (d : Device) → Fact device d → Fits d
device_fits d is =
    let table = is.1.1.0.1.1 in
    let cells = is.1.1.1.0.1.1 in
    let parts = table.0 in
    let healths = cells.1.1.0 in
    record {
      full = parts.1.0.1;
      each = of_each Part.the_row PartFits part_fits d.table.parts parts.0 parts.1.1;
      celled = healths.1.0.1;
      healths = of_each u8 (λ h. h < 2 ^ 8) (λ h vs low. low.1) d.cells.healths healths.0 healths.1.1;
      limit = table.1.1.0.1;
      noted = note_fits d.cells.note _ cells.1.1.1.1.0;
    }
