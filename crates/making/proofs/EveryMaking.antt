-- No second answer fits a making; a refusal leaves the device that was there; a new one is tidy and in order (specs/Promises).
use Prim.Native.Nat.{ℕ, ◌≤◌}
use mathlib.Core.Bool.{Bool, true, false, cond}
use mathlib.Core.Path.{◌≡◌, refl, ap, ◌∙◌}
use native.Mathlib.Omega.{arith}
use lib.ListN.{length}
use Rattle.conduct.specs.Promises.{Leaves, Tidy}
use Rattle.device.specs.declared.Device.{Device}
use Rattle.offer.proofs.Laws.{good-ascending, good_count}
use Rattle.offer.proofs.Splits.{split_past, built_ids}
use Rattle.offer.specs.Check.{good}
use Rattle.offer.specs.Elements.{offered, part_of, health_of}
use Rattle.offer.specs.declared.Offer.{Offer}
use Rattle.paper.proofs.Once.{told_once}
use Rattle.paper.specs.Told.{tells}
use Rattle.table.specs.Elements.{identifiers, blank_part, ascending}
use Rattle.making.specs.Making.{fresh, made_of}
use Rattle.making.specs.Promises.{OneDevice, RefusalMakesNone, MadeTidy, MadeInOrder}

pub one_device : OneDevice
one_device d o = told_once (made_of d o)

pub refusal_makes_none : RefusalMakesNone
unfolding made_of
refusal_makes_none d o = go (good o.count (offered o) o.limit)
  where
    go : (b : Bool) → Leaves d (cond b (tells 0 (fresh o)) (tells 8 d))
    go true z = absurd (z refl)
    go false z = refl

-- ## A new device

module _ (o : Offer) (full : length o.elements ≡ 128) (g : good o.count (offered o) o.limit ≡ true) where
  fresh_tidy : Tidy (fresh o)
  fresh_tidy =
      let few : o.count ≤ 128 = good_count o.count (offered o) o.limit g in
      record { slots = split_past o full few part_of blank_part; healths = split_past o full few health_of 0; rests = λ _. refl }

  pub fresh_order : ascending 0 (identifiers (fresh o).table) ≡ true
  fresh_order =
      let few : o.count ≤ 128 = good_count o.count (offered o) o.limit g in
      ap (ascending 0) (built_ids o full few) ∙ good-ascending o.count (offered o) o.limit g

-- what holds of a new device holds of one that was answered 0
made : (there : Device) (o : Offer) (P : Device → Type 0) → (good o.count (offered o) o.limit ≡ true → P (fresh o)) → (made_of there o).number ≡ 0 → P (made_of there o).state
unfolding made_of
made there o P new = go (good o.count (offered o) o.limit) refl
  where
    go : (b : Bool) → good o.count (offered o) o.limit ≡ b → (cond b (tells 0 (fresh o)) (tells 8 there)).number ≡ 0 → P (cond b (tells 0 (fresh o)) (tells 8 there)).state
    go true g z = new g
    go false g z = absurd (let no : ◌≡◌ {A = ℕ} 8 0 = z in omega arith)

pub made_tidy : MadeTidy
made_tidy there o full = made there o Tidy (fresh_tidy o full)

pub made_in_order : MadeInOrder
made_in_order there o full = made there o (λ (x : Device). ascending 0 (identifiers x.table) ≡ true) (fresh_order o full)
