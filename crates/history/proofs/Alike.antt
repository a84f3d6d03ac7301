-- With an empty note the position is not looked at (specs/Runs, `RestsAlike`): two devices that differ in it alone stay so, or become one.
use Prim.Native.Nat.{ℕ}
use mathlib.Core.Bool.{Bool, true, false, cond, not, ◌||◌}
use mathlib.Core.List.{◌∷◌}
use mathlib.Core.Logic.{◌⊎◌, inl, inr}
use mathlib.Core.Path.{◌≡◌, refl, ap, subst}
use native.Mathlib.Omega.{arith}
use lib.Dec.{eqb}
use Rattle.std.proofs.Common.{Option, Some, None}
use Rattle.cells.specs.Cells.{make, is_full, removed_in}
use Rattle.cells.specs.Rulings.{Ruled}
use Rattle.cells.specs.Sights.{see_in}
use Rattle.cells.specs.declared.Cells.{Cells}
use Rattle.cells.specs.declared.Note.TheVariants.{Empty, Full}
use Rattle.cells.specs.declared.Note.{Note}
use Rattle.cells.specs.declared.Position.{Position}
use Rattle.cells.specs.declared.Seen.{Seen}
use Rattle.cells.specs.declared.Store.{Store}
use Rattle.device.specs.Commands.{media_number, other_number}
use Rattle.device.specs.Machine.{Event, command, step, media_error, power_cut, comreset, hardware_reset, software_reset, grade, rule, told}
use Rattle.device.specs.declared.Device.{Device}
use Rattle.paper.specs.Elements.{removed_health, graded_health}
use Rattle.paper.specs.Registers.{low48, identifier_of}
use Rattle.paper.specs.Table12.{aborts}
use Rattle.paper.specs.declared.Command.TheVariants.{Remove}
use Rattle.paper.specs.declared.ElementId.{ElementId}
use Rattle.paper.specs.declared.Lba.{Lba}
use Rattle.paper.specs.declared.Registers.{Registers}
use Rattle.paper.specs.declared.Security.{Security}
use Rattle.removal.specs.Remove.{limit_met, too_small, too_high, judge_room, judge_found, rule_remove}
use Rattle.steps.specs.Steps.{rule_step, rule_stop, grade_seen}
use Rattle.table.specs.Elements.{is_storage}
use Rattle.table.specs.declared.Table.{Table}
use Rattle.history.specs.Runs.{Script, begin, ◌▸◌, after, history, answers_in, RestsAlike}

-- two rulings of one number and one store, after which the note is empty still, or the position is one
pub record Same (c : Cells) (r s : Ruled) : Type 0 where
  pub number : r.number ≡ s.number
  pub store : r.store ≡ s.store
  pub next : ((make r.store c).note ≡ Empty) ⊎ (r.next ≡ s.next)

module _ (t : Table) (c : Cells) (p q : Position) (empty : c.note ≡ Empty) where
  abbrev at : Position → Device
  at r = record { table = t; cells = c; position = r }

  either : (b : Bool) {w x y z : Ruled} → Same c w y → Same c x z → Same c (cond b w x) (cond b y z)
  either true f g = f
  either false f g = g

  still : {r s : Ruled} → r.number ≡ s.number → r.store ≡ s.store → (make r.store c).note ≡ Empty → Same c r s
  still n e rests = record { number = n; store = e; next = inl rests }

  same-found : (id : ElementId) (lba : Lba) (x : Option Seen) → Same c (judge_found t c p id lba x) (judge_found t c q id lba x)
  unfolding judge_found judge_room
  same-found id lba None = still refl refl empty
  same-found id lba (Some s) =
      either (not (is_storage s.part)) (still refl refl empty)
      (either (removed_health s.health) (still refl refl empty)
      (either (limit_met t.limit (removed_in t c)) (still refl refl empty)
      (either (too_small c.native.0 s.part.blocks) (still refl refl empty)
      (either (too_high c.native.0 s.part.blocks lba.0) (still refl refl empty)
      (record { number = refl; store = refl; next = inr refl })))))

  same-remove : (s : Security) (r : Registers) → Same c (rule_remove t c p s r) (rule_remove t c q s r)
  same-remove s r = either (aborts Remove s) (still refl refl empty) (either (is_full c.note) (still refl refl empty) (same-found (identifier_of r) (low48 r.lba) (see_in t c (identifier_of r))))

  same_step : (n : Note) → n ≡ Empty → Same c (rule_step t c p n) (rule_step t c q n)
  same_step Empty e = still refl refl empty
  same_step (Full w) e = absurd (let no : ◌≡◌ {A = ℕ} 0 1 = cc in omega arith)

  same_stop : (idle : ℕ) (n : Note) → n ≡ Empty → Same c (rule_stop p idle n) (rule_stop q idle n)
  same_stop idle Empty e = still refl refl empty
  same_stop idle (Full w) e = absurd (let no : ◌≡◌ {A = ℕ} 0 1 = cc in omega arith)

  same_grade : (h : ℕ) (x : Option Seen) → Same c (grade_seen p h x) (grade_seen q h x)
  unfolding grade_seen
  same_grade h None = still refl refl empty
  same_grade h (Some s) = either (removed_health s.health || not (graded_health h)) (still refl refl empty) (still refl refl empty)

  same-rule : (e : Event) → Same c (rule (at p) e) (rule (at q) e)
  unfolding other_number media_number
  same-rule (command s r room) = either (eqb r.code 0x7C) (same-remove s r) (still refl refl empty)
  same-rule step = same_step c.note empty
  same-rule media_error = same_stop 10 c.note empty
  same-rule power_cut = same_stop 0 c.note empty
  same-rule comreset = still refl refl empty
  same-rule hardware_reset = still refl refl empty
  same-rule software_reset = still refl refl empty
  same-rule (grade id h) = same_grade h (see_in t c id)

-- two devices of one table and one record of cells, at rest or at one position
pub record Alike (d x : Device) : Type 0 where
  pub table : d.table ≡ x.table
  pub cells : d.cells ≡ x.cells
  pub rests : (d.cells.note ≡ Empty) ⊎ (d.position ≡ x.position)

abbrev GoesOn : Event → Device → Device → Type 0
GoesOn e d x = ((told d e).number ≡ (told x e).number) × Alike (told d e).state (told x e).state

alike_on : (d x : Device) → Alike d x → (e : Event) → GoesOn e d x
alike_on d x a e = go a.rests
  where
    go : (d.cells.note ≡ Empty) ⊎ (d.position ≡ x.position) → GoesOn e d x
    go (inl empty) =
        let same = same-rule d.table d.cells d.position x.position empty e in
        subst (GoesOn e d) (λ i. record { table = a.table i; cells = a.cells i; position = x.position })
        (same.number, record { table = refl; cells = ap (λ (s : Store). make s d.cells) same.store; rests = same.next })
    go (inr one) =
        subst (GoesOn e d) (λ i. record { table = a.table i; cells = a.cells i; position = one i })
        (refl, record { table = refl; cells = refl; rests = inr refl })

alike-after : (d x : Device) → Alike d x → (s : Script) → (answers_in (history d s) ≡ answers_in (history x s)) × Alike (after d s) (after x s)
alike-after d x a begin = (refl, a)
alike-after d x a (s ▸ e) =
    let before = alike-after d x a s in
    let now = alike_on (after d s) (after x s) before.1 e in
    (λ i. now.0 i ∷ before.0 i, now.1)

pub rests_alike : RestsAlike
rests_alike d x same empty s =
    let so = alike-after d x (record { table = same.table; cells = same.cells; rests = inl empty }) s in
    (so.0, so.1.cells)
