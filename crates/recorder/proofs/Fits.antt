-- A record that C keeps: its types bound the numbers of the device that it is. A fact of a struct holds one of each field, and a fact of an array its
-- length and one of each element.
use Prim.Native.Nat.{ℕ, ◌^◌, ◌<◌}
use mathlib.Core.Bool.{Bool, true, false, cond}
use mathlib.Core.Path.{◌≡◌, subst}
use native.Mathlib.Omega.{arith}
use denote.Builtin.{u8}
use Rattle.calls.proofs.Fits.{of_each, part_fits}
use Rattle.cells.specs.declared.Note.TheVariants.{Empty, Full}
use Rattle.cells.specs.declared.Removal.{Removal}
use Rattle.conduct.proofs.Fits.{one_removal}
use Rattle.conduct.specs.Fits.{PartFits, Fits}
use Rattle.datum.proofs.Datum.{Fact}
use Rattle.image.specs.Reading.{removal_in, device_of}
use Rattle.image.specs.declared.Image.{Image}
use Rattle.paper.specs.Flags.{is_on}
use Rattle.table.specs.contracts.Part as Part
use Rattle.recorder.proofs.Data.{image}

noted_fits : (v : Removal) → v.element.0 < 2 ^ 32 → (b : Bool) (w : Removal) → cond b (Full v) Empty ≡ Full w → w.element.0 < 2 ^ 32
noted_fits v low true w q = subst (λ (u : Removal). u.element.0 < 2 ^ 32) (one_removal q) low
noted_fits v low false w q = absurd (let z : ◌≡◌ {A = ℕ} 0 1 = cc in omega arith)

pub image_fits : (i : Image) → Fact image i → Fits (device_of i)
unfolding device_of
image_fits i is =
    let fields = is.1.1 in
    let parts = fields.0 in
    let healths = fields.1.1.1.1.1.1.1.1.1.1.1.0 in
    record {
      full = parts.1.0.1;
      each = of_each Part.the_row PartFits part_fits i.parts parts.0 parts.1.1;
      celled = healths.1.0.1;
      healths = of_each u8 (λ h. h < 2 ^ 8) (λ h vs low. low.1) i.healths healths.0 healths.1.1;
      limit = fields.1.1.1.1.1.1.1.0.1;
      noted = noted_fits (removal_in i) fields.1.1.1.1.1.0.1.1.0.1 (is_on i.full);
    }
