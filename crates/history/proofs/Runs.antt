-- A chain of calls leaves the device of its script, and gave the answers of its history.
use Prim.Native.Nat.{ℕ}
use mathlib.Core.List.{◌∷◌}
use mathlib.Core.Path.{◌≡◌, refl, ap, ◌∙◌}
use Rattle.device.specs.Machine.{Event, told}
use Rattle.device.specs.declared.Device.{Device}
use Rattle.paper.specs.Told.{Told, tells}
use Rattle.history.specs.Runs.{Script, ◌▸◌, after, none, call, RunsAreScripts}

-- one call more
pub then : (d : Device) (s : Script) (x : Device) (e : Event) (n : ℕ) (y : Device) → tells n y ≡ told x e → x ≡ after d s → y ≡ after d (s ▸ e)
then d s x e n y p q = ap (λ (t : Told Device). t.state) p ∙ ap (λ (z : Device). (told z e).state) q

answered : (d : Device) (s : Script) (x : Device) (e : Event) (n : ℕ) (y : Device) → tells n y ≡ told x e → x ≡ after d s → n ≡ (told (after d s) e).number
answered d s x e n y p q = ap (λ (t : Told Device). t.number) p ∙ ap (λ (z : Device). (told z e).number) q

pub runs_are_scripts : RunsAreScripts
runs_are_scripts d _ _ _ none = (refl, refl)
runs_are_scripts d _ _ _ (call {s} {ns} {x} ran e n y p) =
    let past = runs_are_scripts d s ns x ran in
    (then d s x e n y p past.0, λ i. answered d s x e n y p past.0 i ∷ past.1 i)
