-- The search of an offered table: what it finds (specs/Promises).
use Prim.Native.Nat.{ℕ, ◌<◌}
use mathlib.Core.Bool.{Bool, true, false, cond}
use mathlib.Core.Path.{◌≡◌, refl, sym, ap, ◌∙◌}
use native.Mathlib.Omega.{arith}
use lib.ListN.{length, get_or, length-map, get_or-map}
use Rattle.std.proofs.Common.{Option, Some, None}
use Rattle.table.proofs.Search.{hits_there, hits_member}
use Rattle.table.specs.Search.{place, hits}
use Rattle.offer.specs.Elements.{blank, element_ids}
use Rattle.offer.specs.Promises.{FindSound, FindMember}
use Rattle.offer.specs.Search.{find}
use Rattle.offer.specs.declared.Element.{Element}

abbrev element : Option Element → Element
element None = blank
element (Some e) = e

pub find_sound : FindSound
unfolding find
find_sound id es e q = go (hits id (element_ids es)) q (hits_there id (element_ids es))
  where
    go : (b : Bool) → cond b (Some (get_or es (place id (element_ids es)) blank)) None ≡ Some e
        → (b ≡ true → (place id (element_ids es) < length (element_ids es)) × (get_or (element_ids es) (place id (element_ids es)) 0 ≡ id))
        → (i : ℕ) × (i < length es) × (get_or es i blank ≡ e) × (e.id.0 ≡ id)
    go true r there =
        let w = there refl in
        let same : get_or es (place id (element_ids es)) blank ≡ e = ap element r in
        (place id (element_ids es), simp length-map at w.0, same, ap (λ (x : Element). x.id.0) (sym same) ∙ sym (get_or-map (λ (x : Element). x.id.0) es _ blank) ∙ w.1)
    go false r there = absurd (let z : ◌≡◌ {A = ℕ} 0 1 = cc in omega arith)

pub find_member : FindMember
unfolding find
find_member low es i q h =
    let name : get_or (element_ids es) i 0 ≡ (get_or es i blank).id.0 = get_or-map (λ (x : Element). x.id.0) es i blank in
    let w = hits_member low (element_ids es) i q (simp length-map h) in
    rw (← name, w.0, w.1)
