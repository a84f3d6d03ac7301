-- Every ruling has one of a few shapes (`each`), so what holds of every call is proved of these.
use Prim.Native.Nat.{ℕ}
use mathlib.Core.Bool.{Bool, true, false, cond, not, ◌||◌, true≢false}
use mathlib.Core.Path.{◌≡◌, refl}
use lib.Dec.{eqb}
use Rattle.std.proofs.Common.{Option, Some, None}
use Rattle.cells.specs.Cells.{make, is_full}
use Rattle.cells.specs.Rulings.{Ruled, goes}
use Rattle.cells.specs.declared.Cells.{Cells}
use Rattle.cells.specs.declared.Mark.TheVariants.{Clear}
use Rattle.cells.specs.declared.Note.TheVariants.{Empty, Full}
use Rattle.cells.specs.declared.Note.{Note}
use Rattle.cells.specs.declared.Position.TheVariants.{Work1, Wind1}
use Rattle.cells.specs.declared.Removal.{Removal}
use Rattle.cells.specs.declared.Seen.{Seen}
use Rattle.cells.specs.declared.Store.TheVariants.{Nothing, Marked, Graded, FailedTo, Noted}
use Rattle.device.proofs.Stores.{store_at}
use Rattle.device.specs.Machine.{Event, command, step, media_error, power_cut, comreset, hardware_reset, software_reset, grade, rule}
use Rattle.device.specs.Record.{under_way, removed_number, says, see}
use Rattle.device.specs.declared.Device.{Device}
use Rattle.paper.specs.Elements.{removed_health, graded_health}
use Rattle.paper.specs.Registers.{low48, identifier_of}
use Rattle.paper.specs.Table12.{aborts}
use Rattle.paper.specs.declared.Command.TheVariants.{Remove}
use Rattle.paper.specs.declared.ElementId.{ElementId}
use Rattle.paper.specs.declared.Lba.{Lba}
use Rattle.paper.specs.declared.Registers.{Registers}
use Rattle.paper.specs.declared.Security.{Security}
use Rattle.removal.specs.Remove.{limit_met, too_small, too_high, removal_of, judge_room, judge_found, rule_remove}
use Rattle.steps.specs.Steps.{marking, next_of, rule_step, rule_stop, grade_seen}
use Rattle.table.specs.Elements.{is_storage}

-- commands and resets; steps; errors and cuts
pub data Kind : Type 0 where
  still moving stopping : Kind

-- what is seen of an element that is there, and not at FFh
pub record Standing (d : Device) (id : ElementId) (s : Seen) : Type 0 where
  pub hit : see d id ≡ Some s
  pub health : removed_health s.health ≡ false

pub data Shape (d : Device) : Kind → Ruled → Type 0 where
  -- a number, and nothing changes
  quiet : {k : Kind} (n : ℕ) → Shape d k (says n d)
  -- a command for an element at FFh
  clears : Shape d still (goes (FailedTo Clear) d.position)
  -- an accepted removal
  notes : (id : ElementId) (lba : Lba) (s : Seen) → d.cells.note ≡ Empty → Standing d id s
      → Shape d still (goes (Noted (removal_of d.cells.native id lba s.part.blocks)) Work1)
  -- a step
  advances : (w : Removal) → d.cells.note ≡ Full w → Shape d moving (goes (store_at d w d.position) (next_of d.position))
  -- an error or a cut during a removal
  winds : (w : Removal) → d.cells.note ≡ Full w → Shape d stopping (goes Nothing Wind1)

pub data Grading (d : Device) (id : ElementId) (h : ℕ) : Ruled → Type 0 where
  refuses : Grading d id h (says 11 d)
  grades : (s : Seen) → Standing d id s → graded_health h ≡ true → Grading d id h (goes (Graded s.place h) d.position)

abbrev pub Shaped : Device → Event → Ruled → Type 0
Shaped d (command s x room) r = Shape d still r
Shaped d step r = Shape d moving r
Shaped d media_error r = Shape d stopping r
Shaped d power_cut r = Shape d stopping r
Shaped d comreset r = Shape d still r
Shaped d hardware_reset r = Shape d still r
Shaped d software_reset r = Shape d still r
Shaped d (grade id h) r = Grading d id h r

-- the marking store leaves the note
pub marking_note : (x : Option Seen) (c : Cells) → (make (marking x) c).note ≡ c.note
marking_note None c = refl
marking_note (Some s) c = refl

-- a choice is taken by cases
pub choose : (P : Ruled → Type 0) (b : Bool) {x y : Ruled} → (b ≡ true → P x) → (b ≡ false → P y) → P (cond b x y)
choose P true f g = f refl
choose P false f g = g refl

none_of : (b c : Bool) → (b || not c) ≡ false → (b ≡ false) × (c ≡ true)
none_of true c e = absurd (true≢false e)
none_of false true e = (refl, refl)
none_of false false e = absurd (true≢false e)

module _ (d : Device) where
  module _ (empty : d.cells.note ≡ Empty) (id : ElementId) (lba : Lba) where
    shape_room : (s : Seen) → Standing d id s → Shape d still (judge_room d.position d.cells.native id lba s.part.blocks)
    unfolding judge_room
    shape_room s standing =
        choose (Shape d still) (too_small d.cells.native.0 s.part.blocks) (λ _. quiet 4)
        (λ _. choose (Shape d still) (too_high d.cells.native.0 s.part.blocks lba.0) (λ _. quiet 4)
        (λ _. notes id lba s empty standing))

    shape_found : (x : Option Seen) → see d id ≡ x → Shape d still (judge_found d.table d.cells d.position id lba x)
    unfolding judge_found
    shape_found None e = quiet 4
    shape_found (Some s) e =
        choose (Shape d still) (not (is_storage s.part)) (λ _. quiet 4)
        (λ _. choose (Shape d still) (removed_health s.health) (λ _. clears)
        (λ stands. choose (Shape d still) (limit_met d.table.limit (removed_number d)) (λ _. quiet 4)
        (λ _. shape_room s (record { hit = e; health = stands }))))

  idle : (n : Note) → is_full n ≡ false → n ≡ Empty
  idle Empty e = refl
  idle (Full w) e = absurd (true≢false e)

  shape_remove : (s : Security) (x : Registers) → Shape d still (rule_remove d.table d.cells d.position s x)
  shape_remove s x =
      choose (Shape d still) (aborts Remove s) (λ _. quiet 1)
      (λ _. choose (Shape d still) (under_way d) (λ _. quiet 2) (λ e. shape_found (idle d.cells.note e) (identifier_of x) (low48 x.lba) (see d (identifier_of x)) refl))

  shape_step : (n : Note) → d.cells.note ≡ n → Shape d moving (rule_step d.table d.cells d.position n)
  shape_step Empty e = quiet 10
  shape_step (Full w) e = advances w e

  shape_stop : (answer : ℕ) (n : Note) → d.cells.note ≡ n → Shape d stopping (rule_stop d.position answer n)
  shape_stop answer Empty e = quiet answer
  shape_stop answer (Full w) e = winds w e

  shape_grade : (id : ElementId) (h : ℕ) (x : Option Seen) → see d id ≡ x → Grading d id h (grade_seen d.position h x)
  unfolding grade_seen
  shape_grade id h None e = refuses
  shape_grade id h (Some s) e =
      choose (Grading d id h) (removed_health s.health || not (graded_health h)) (λ _. refuses)
      (λ q. let all = none_of (removed_health s.health) (graded_health h) q in grades s (record { hit = e; health = all.0 }) all.1)

  pub each : (e : Event) → Shaped d e (rule d e)
  each (command s x room) =
      choose (Shape d still) (eqb x.code 0x7C) (λ _. shape_remove s x) (λ _. quiet _)
  each step = shape_step d.cells.note refl
  each media_error = shape_stop 10 d.cells.note refl
  each power_cut = shape_stop 0 d.cells.note refl
  each comreset = quiet 0
  each hardware_reset = quiet 0
  each software_reset = quiet 0
  each (grade id h) = shape_grade id h (see d id) refl

-- what holds of every shape holds of every ruling
pub every : (d : Device) (P : Ruled → Type 0) → ((k : Kind) (r : Ruled) → Shape d k r → P r) → ((id : ElementId) (h : ℕ) (r : Ruled) → Grading d id h r → P r) → (e : Event) → P (rule d e)
every d P shape grading (command s x room) = shape _ _ (each d (command s x room))
every d P shape grading step = shape _ _ (each d step)
every d P shape grading media_error = shape _ _ (each d media_error)
every d P shape grading power_cut = shape _ _ (each d power_cut)
every d P shape grading comreset = shape _ _ (each d comreset)
every d P shape grading hardware_reset = shape _ _ (each d hardware_reset)
every d P shape grading software_reset = shape _ _ (each d software_reset)
every d P shape grading (grade id h) = grading id h _ (each d (grade id h))
