-- How a removal gets on: undisturbed, each step moves it along its way, and nothing else does.
use Prim.Native.Nat.{ℕ, zero, suc, ◌<◌, ◌≤◌}
use mathlib.Core.Bool.{true, false≢true}
use mathlib.Core.Path.{◌≡◌, refl, sym, ap, ◌∙◌, subst, subst⁻¹}
use native.Mathlib.Omega.{arith}
use Rattle.cells.specs.Cells.{make}
use Rattle.cells.specs.Rulings.{Ruled, goes}
use Rattle.cells.specs.Sights.{place_of}
use Rattle.cells.specs.declared.Note.TheVariants.{Empty, Full}
use Rattle.cells.specs.declared.Note.{Note}
use Rattle.cells.specs.declared.Position.TheVariants.{Work1, Work2, Work3, Work4, Work5, Wind1, Wind2, Wind3, Wind4}
use Rattle.cells.specs.declared.Position.{Position}
use Rattle.cells.specs.declared.Removal.{Removal}
use Rattle.cells.specs.declared.Store.TheVariants.{Marked, Noted}
use Rattle.cells.specs.declared.Store.{Store}
use Rattle.conduct.proofs.Shapes.{still, Shape, quiet, clears, notes, Grading, refuses, grades, each, marking_note}
use Rattle.device.proofs.Stores.{store_at}
use Rattle.device.specs.Machine.{Event, command, step, media_error, power_cut, comreset, hardware_reset, software_reset, grade, rule, told}
use Rattle.device.specs.Record.{carried_out, see, wound_up}
use Rattle.device.specs.declared.Device.{Device}
use Rattle.paper.specs.declared.ElementId.{ElementId}
use Rattle.steps.specs.Steps.{next_of, rule_step, rule_stop}
use Rattle.table.proofs.Ascending.{both}
use Rattle.history.specs.Progress.{calm, steps, At, OnItsWay, work_store, FiveSteps, FifthEnds, stops, StopWinds, wind_store, FourSteps, FourthEnds}
use Rattle.history.specs.Runs.{Script, begin, ◌▸◌, ◌▸▸◌, after}
use Rattle.history.proofs.Events.{Tells, store_tells}
use Rattle.history.proofs.Places.{table_kept, marks-same}

after_join : (d : Device) (s t : Script) → after d (s ▸▸ t) ≡ after (after d s) t
after_join d s begin = refl
after_join d s (t ▸ e) = ap (λ (x : Device). (told x e).state) (after_join d s t)

empty_full : {A : Type 0} {w : Removal} → Empty ≡ Full w → A
empty_full q = absurd (let z : ◌≡◌ {A = ℕ} 0 1 = cc in omega arith)

-- ## A way through the step list: the work steps, or those of winding up

abbrev work : ℕ → Position
work zero = Work1
work (suc zero) = Work2
work (suc (suc zero)) = Work3
work (suc (suc (suc zero))) = Work4
work (suc (suc (suc (suc n)))) = Work5

abbrev wind : ℕ → Position
wind zero = Wind1
wind (suc zero) = Wind2
wind (suc (suc zero)) = Wind3
wind (suc (suc (suc n))) = Wind4

module _ (w : Removal) where
  -- nothing but a step moves it on
  stay : (p : Position) (d : Device) → At p w d → (r : Ruled) → Shape d still r → At p w (carried_out d r)
  stay p d o r (quiet n) = o
  stay p d o r clears = record { note = o.note; position = o.position }
  stay p d o r (notes id lba seen empty s) = empty_full (sym empty ∙ o.note)

  stay_grade : (p : Position) (d : Device) (id : ElementId) (h : ℕ) → At p w d → (r : Ruled) → Grading d id h r → At p w (carried_out d r)
  stay_grade p d id h o r refuses = o
  stay_grade p d id h o r (grades seen s g) = record { note = o.note; position = o.position }

  -- the ruling on a step, at a known note and position
  ruled_at : (p : Position) (d : Device) → At p w d → rule d step ≡ goes (store_at d w p) (next_of p)
  ruled_at p d o = ap (rule_step d.table d.cells d.position) o.note ∙ ap (λ (q : Position). goes (store_at d w q) (next_of q)) o.position

  -- a way of `end` steps, none of which empties the note
  module _ (way : ℕ → Position) (end : ℕ)
      (on : (k : ℕ) → k < end → (d : Device) → ((make (store_at d w (way k)) d.cells).note ≡ d.cells.note) × (next_of (way k) ≡ way (suc k))) where
    go : (d : Device) → At (way 0) w d → (s : Script) → calm s ≡ true → steps s ≤ end → At (way (steps s)) w (after d s)
    go d o begin c l = o
    go d o (s ▸ command y x room) c l = stay (way (steps s)) (after d s) (go d o s (both true (calm s) c).1 l) _ (each (after d s) (command y x room))
    go d o (s ▸ step) c l =
        let x : Device = after d s in
        let k = go d o s (both true (calm s) c).1 (omega arith) in
        let next = on (steps s) (omega arith) x in
        subst⁻¹ (λ (r : Ruled). At (way (suc (steps s))) w (carried_out x r)) (ruled_at (way (steps s)) x k) (record { note = next.0 ∙ k.note; position = next.1 })
    go d o (s ▸ media_error) c l = absurd (false≢true c)
    go d o (s ▸ power_cut) c l = absurd (false≢true c)
    go d o (s ▸ comreset) c l = go d o s (both true (calm s) c).1 l
    go d o (s ▸ hardware_reset) c l = go d o s (both true (calm s) c).1 l
    go d o (s ▸ software_reset) c l = go d o s (both true (calm s) c).1 l
    go d o (s ▸ grade i v) c l = stay_grade (way (steps s)) (after d s) i v (go d o s (both true (calm s) c).1 l) _ (each (after d s) (grade i v))

    -- and the step that comes then makes the store of its turn
    arrives : (stores : ℕ → Store) (d : Device) → At (way 0) w d → (s : Script) → calm s ≡ true → steps s ≤ end
        → store_at (after d s) w (way (steps s)) ≡ stores (steps s) → OnItsWay stores w (steps s) (after d s)
    arrives stores d o s c l q =
        let k = go d o s c l in
        let r = ruled_at (way (steps s)) (after d s) k in
        record { note = k.note; answer = ap (λ (y : Ruled). y.number) r; store = ap (λ (y : Ruled). y.store) r ∙ q }

  -- ## The work steps

  work_on : (k : ℕ) → k < 4 → (d : Device) → ((make (store_at d w (work k)) d.cells).note ≡ d.cells.note) × (next_of (work k) ≡ work (suc k))
  work_on zero l d = (refl, refl)
  work_on (suc zero) l d = (refl, refl)
  work_on (suc (suc zero)) l d = (marking_note (see d w.element) d.cells, refl)
  work_on (suc (suc (suc zero))) l d = (refl, refl)
  work_on (suc (suc (suc (suc n)))) l d = absurd (omega arith)

  module _ (d : Device) (e : Event) (noted : (rule d e).store ≡ Noted w) where
    -- the acceptance of a removal: its element is there, and it leads to the first work step
    made_by : Tells d e (rule d e).next (Noted w)
    made_by = subst (Tells d e (rule d e).next) noted (store_tells d e)

    -- the element stays at its place
    work_store_lem : (k : ℕ) (x : Device) → x.table ≡ d.table → store_at x w (work k) ≡ work_store (place_of (see d w.element)) w k
    work_store_lem zero x q = refl
    work_store_lem (suc zero) x q = refl
    work_store_lem (suc (suc zero)) x q =
        marks-same d.table d refl w.element x q made_by.1
    work_store_lem (suc (suc (suc zero))) x q = refl
    work_store_lem (suc (suc (suc (suc n)))) x q = refl

    on_its_way : (s : Script) → calm s ≡ true → steps s ≤ 4 → OnItsWay (work_store (place_of (see d w.element)) w) w (steps s) (after d (begin ▸ e ▸▸ s))
    on_its_way s c l =
        let x : Device = after d (begin ▸ e) in
        let o : At Work1 w x = record { note = ap (λ (y : Store). (make y d.cells).note) noted; position = made_by.0 } in
        subst⁻¹ (OnItsWay (work_store (place_of (see d w.element)) w) w (steps s)) (after_join d (begin ▸ e) s)
        (arrives work 4 work_on (work_store (place_of (see d w.element)) w) x o s c l (work_store_lem (steps s) (after x s) (table_kept x s)))

    fifth : (s : Script) → calm s ≡ true → steps s ≡ 4 → (after d (begin ▸ e ▸▸ (s ▸ step))).cells.note ≡ Empty
    fifth s c k =
        ap (λ (y : Store). (make y (after d (begin ▸ e ▸▸ s)).cells).note)
        ((on_its_way s c (omega arith)).store ∙ ap (work_store (place_of (see d w.element)) w) k)

  -- ## Winding up

  wind_on : (k : ℕ) → k < 3 → (d : Device) → ((make (store_at d w (wind k)) d.cells).note ≡ d.cells.note) × (next_of (wind k) ≡ wind (suc k))
  wind_on zero l d = (refl, refl)
  wind_on (suc zero) l d = (refl, refl)
  wind_on (suc (suc zero)) l d = (refl, refl)
  wind_on (suc (suc (suc n))) l d = absurd (omega arith)

  wind_store_lem : (k : ℕ) (d : Device) → store_at d w (wind k) ≡ wind_store (wound_up d w) k
  wind_store_lem zero d = refl
  wind_store_lem (suc zero) d = refl
  wind_store_lem (suc (suc zero)) d = refl
  wind_store_lem (suc (suc (suc n))) d = refl

  -- a stop, whatever it answers at rest
  stopped : (d : Device) → d.cells.note ≡ Full w → (idle : ℕ)
      → ((rule_stop d.position idle d.cells.note).number ≡ 0) × At Wind1 w (carried_out d (rule_stop d.position idle d.cells.note))
  stopped d n idle =
      subst⁻¹ (λ (m : Note). ((rule_stop d.position idle m).number ≡ 0) × At Wind1 w (carried_out d (rule_stop d.position idle m))) n
      (refl, record { note = n; position = refl })

pub five_steps : FiveSteps
five_steps d e w = on_its_way w d e

pub fifth_ends : FifthEnds
fifth_ends d e w = fifth w d e

pub stop_winds : StopWinds
stop_winds d w n (command s x room) q = absurd (false≢true q)
stop_winds d w n step q = absurd (false≢true q)
stop_winds d w n media_error q = stopped w d n 10
stop_winds d w n power_cut q = stopped w d n 0
stop_winds d w n comreset q = absurd (false≢true q)
stop_winds d w n hardware_reset q = absurd (false≢true q)
stop_winds d w n software_reset q = absurd (false≢true q)
stop_winds d w n (grade i v) q = absurd (false≢true q)

pub four_steps : FourSteps
four_steps d w o s c l = arrives w wind 3 (wind_on w) (wind_store (wound_up (after d s) w)) d o s c l (wind_store_lem w (steps s) (after d s))

pub fourth_ends : FourthEnds
fourth_ends d w o s c k =
    ap (λ (y : Store). (make y (after d s).cells).note) ((four_steps d w o s c (omega arith)).store ∙ ap (wind_store (wound_up (after d s) w)) k)

-- the fourth step after a stop in any run
pub fourth_after : (start : Device) (s : Script) (w : Removal) → (after start s).cells.note ≡ Full w → (e : Event) → stops e ≡ true → (t : Script) → calm t ≡ true → steps t ≡ 3
    → (after start (s ▸ e ▸▸ (t ▸ step))).cells.note ≡ Empty
fourth_after start s w n e q t c k =
    ap (λ (x : Device). x.cells.note) (after_join start (s ▸ e) (t ▸ step)) ∙ fourth_ends (after start (s ▸ e)) w (stop_winds (after start s) w n e q).1 t c k
