-- What is put down is what is read, and a byte that need not change does not (specs/Promises).
use Prim.Native.Nat.{◌≤◌, min}
use mathlib.Core.Bool.{Bool, true, false, cond}
use mathlib.Core.Path.{◌≡◌, refl, ap, ◌∙◌}
use native.Mathlib.Nat.{min-eq_left}
use Rattle.conduct.proofs.EveryCall.{refusal_leaves}
use Rattle.device.specs.Machine.{told}
use Rattle.making.specs.Making.{fresh, made_of}
use Rattle.offer.proofs.Laws.{good_count}
use Rattle.offer.specs.Check.{good}
use Rattle.offer.specs.Elements.{offered}
use Rattle.offer.specs.declared.Offer.{Offer}
use Rattle.paper.specs.Told.{tells}
use Rattle.table.specs.declared.Table.{Table}
use Rattle.image.specs.Calls.{told_of, made_as, made_by}
use Rattle.image.specs.Keeping.{keeps, built}
use Rattle.image.specs.Promises.{ReadsOn, ReadsMade, RefusalLeavesImage, RefusedMakingLeaves, ResetLeavesImage}
use Rattle.image.specs.Reading.{device_of}
use Rattle.image.specs.declared.Image.{Image}
use Rattle.image.proofs.Keeping.{kept_stays, read_back}

pub reads_on : ReadsOn
unfolding told_of device_of
reads_on i e = (refl, read_back i (told (device_of i) e).state refl)

pub refusal_leaves_image : RefusalLeavesImage
unfolding told_of
refusal_leaves_image i e z = ap (keeps i) (refusal_leaves (device_of i) e z) ∙ kept_stays i

pub reset_leaves_image : ResetLeavesImage
unfolding told_of
reset_leaves_image i = (ap (tells 0) (kept_stays i), ap (tells 0) (kept_stays i), ap (tells 0) (kept_stays i))

-- ## The making of a device

pub built_back : (t : Table) → t.count ≤ 128 → (device_of (built t)).table ≡ t
unfolding device_of built
built_back t few =
    let same : min t.count 128 ≡ t.count = min-eq_left few in
    λ k. record { parts = t.parts; count = same k; limit = t.limit }

module _ (i : Image) (o : Offer) where
  abbrev Made : Bool → Type 0
  Made b =
      let t = cond b (tells 0 (fresh o)) (tells 8 (device_of i)) in
      ((made_as i t).number ≡ t.number) × (device_of (made_as i t).state ≡ t.state)

  made : (b : Bool) → good o.count (offered o) o.limit ≡ b → Made b
  made true g = (refl, read_back (built (fresh o).table) (fresh o) (built_back (fresh o).table (good_count _ _ _ g)))
  made false g = (refl, refl)

  abbrev Leaves : Bool → Type 0
  Leaves b =
      let t = cond b (tells 0 (fresh o)) (tells 8 (device_of i)) in
      ((made_as i t).number ≡ 0 → ⊥) → (made_as i t).state ≡ i

  leaves : (b : Bool) → Leaves b
  leaves true z = absurd (z refl)
  leaves false z = refl

pub reads_made : ReadsMade
unfolding made_by made_of
reads_made i o = made i o (good o.count (offered o) o.limit) refl

pub refused_making_leaves : RefusedMakingLeaves
unfolding made_by made_of
refused_making_leaves i o = leaves i o (good o.count (offered o) o.limit)
