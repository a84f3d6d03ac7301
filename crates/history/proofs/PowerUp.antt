-- Powering up comes to rest: with a removal under way by the four steps, and without one since a cut and a step then change nothing.
use mathlib.Core.Path.{◌≡◌, refl, ap, ◌∙◌}
use Rattle.cells.specs.declared.Note.TheVariants.{Empty, Full}
use Rattle.cells.specs.declared.Note.{Note}
use Rattle.device.specs.Machine.{step, power_cut, told}
use Rattle.device.specs.Record.{carried_out}
use Rattle.device.specs.declared.Device.{Device}
use Rattle.steps.specs.Steps.{rule_step, rule_stop}
use Rattle.history.specs.PowerUp.{power_up, PoweredUpRests}
use Rattle.history.specs.Promise.{Promise}
use Rattle.history.specs.Runs.{begin, ◌▸◌, ◌▸▸◌, after, history}
use Rattle.history.proofs.Demand3.{demand_3}

-- at rest a cut and a step leave the note empty
cut_rests : (d : Device) → d.cells.note ≡ Empty → (told d power_cut).state.cells.note ≡ Empty
cut_rests d e = ap (λ (n : Note). (carried_out d (rule_stop d.position 0 n)).cells.note) e ∙ e

step_rests : (d : Device) → d.cells.note ≡ Empty → (told d step).state.cells.note ≡ Empty
step_rests d e = ap (λ (n : Note). (carried_out d (rule_step d.table d.cells d.position n)).cells.note) e ∙ e

pub powered_up_rests : PoweredUpRests
powered_up_rests start can s = go (after start s).cells.note refl
  where
    d : Device
    d = after start s

    idle : d.cells.note ≡ Empty → (after start (s ▸▸ power_up)).cells.note ≡ Empty
    idle e =
        step_rests (after start (s ▸ power_cut ▸ step ▸ step ▸ step)) (step_rests (after start (s ▸ power_cut ▸ step ▸ step))
        (step_rests (after start (s ▸ power_cut ▸ step)) (step_rests (after start (s ▸ power_cut)) (cut_rests d e))))

    go : (n : Note) → (after start s).cells.note ≡ n → ((after start (s ▸▸ power_up)).cells.note ≡ Empty) × Promise start (history start (s ▸▸ power_up)) (after start (s ▸▸ power_up))
    go Empty e = (idle e, (demand_3.kept start can (s ▸▸ power_up)).at_rest (idle e))
    go (Full w) e = demand_3.brought_about start can s w e power_cut refl (begin ▸ step ▸ step ▸ step) refl refl
