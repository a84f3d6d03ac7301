-- What a run leaves (specs/Runs): the lent making leaves a device in order that fits, and every event keeps that.
use mathlib.Core.Bool.{true}
use mathlib.Core.Path.{◌≡◌, subst⁻¹}
use Rattle.conduct.proofs.Fits.{keeps-fit}
use Rattle.conduct.specs.Fits.{Fits}
use Rattle.device.specs.declared.Device.{Device}
use Rattle.history.proofs.Places.{table_kept}
use Rattle.history.proofs.Runs.{runs_are_scripts}
use Rattle.history.specs.Runs.{Script, begin, ◌▸◌, after}
use Rattle.table.specs.Elements.{identifiers, ascending}
use Rattle.table.specs.declared.Table.{Table}
use Rattle.demands.specs.Runs.{AfterRuns}
use Rattle.demands.proofs.Starts.{listed_starts}

fits_after : (d : Device) → Fits d → (s : Script) → Fits (after d s)
fits_after d fits begin = fits
fits_after d fits (s ▸ e) = keeps-fit (after d s) e (fits_after d fits s)

ordered-after : (d : Device) → ascending 0 (identifiers d.table) ≡ true → (s : Script) → ascending 0 (identifiers (after d s).table) ≡ true
ordered-after d asc s = subst⁻¹ (λ (t : Table). ascending 0 (identifiers t) ≡ true) (table_kept d s) asc

pub run-leaves : AfterRuns (λ x. Fits x × (ascending 0 (identifiers x.table) ≡ true))
run-leaves there es limit a d (is_made, fits) z s ns x ran =
    subst⁻¹ (λ (v : Device). Fits v × (ascending 0 (identifiers v.table) ≡ true)) (runs_are_scripts d s ns x ran).0
    (fits_after d fits s, ordered-after d ((listed_starts there es limit a d is_made).0 z).1.startable.ids s)
