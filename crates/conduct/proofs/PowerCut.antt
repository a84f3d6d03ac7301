-- Only the position is lost with power: an error or a cut changes no cell, and while a removal is under way it sets the position.
use Prim.Native.Nat.{ℕ}
use mathlib.Core.Path.{◌≡◌, refl, sym, ap, ◌∙◌}
use Rattle.cells.specs.declared.Cells.{Cells}
use Rattle.cells.specs.declared.Note.TheVariants.{Empty, Full}
use Rattle.cells.specs.declared.Note.{Note}
use Rattle.cells.specs.declared.Position.TheVariants.{Wind1}
use Rattle.device.specs.Record.{carried_out, tell}
use Rattle.device.specs.declared.Device.{Device}
use Rattle.paper.specs.Told.{tells}
use Rattle.steps.specs.Steps.{rule_stop}
use Rattle.conduct.specs.Promises.{StopKeepsCells, ResetChangesNothing, CutForgets}

pub reset_changes_nothing : ResetChangesNothing
reset_changes_nothing d = (refl, refl, refl)

pub stop_keeps_cells : StopKeepsCells
stop_keeps_cells d = (kept 0 d.cells.note, kept 10 d.cells.note)
  where
    kept : (idle : ℕ) (n : Note) → (carried_out d (rule_stop d.position idle n)).cells ≡ d.cells
    kept idle Empty = refl
    kept idle (Full w) = refl

pub cut_forgets : CutForgets
cut_forgets d x same w full =
    cut d d.cells.note full ∙ (λ i. tells 0 (record { table = same.table i; cells = same.cells i; position = Wind1 })) ∙ sym (cut x x.cells.note (ap (λ (c : Cells). c.note) (sym same.cells) ∙ full))
  where
    cut : (y : Device) (n : Note) → n ≡ Full w → tell y (rule_stop y.position 0 n) ≡ tells 0 (record { table = y.table; cells = y.cells; position = Wind1 })
    cut y n e = ap (λ (m : Note). tell y (rule_stop y.position 0 m)) e
