-- Which events make the note, the marking store, and the store that sets the failed mark: what each ruling's shape tells of its store.
use Prim.Native.Nat.{ℕ, ◌<◌}
use mathlib.Core.Bool.{Bool, true, false, cond, not, true≢false, false≢true}
use mathlib.Core.Path.{◌≡◌, refl, sym, ap, subst, subst⁻¹, ◌∙◌}
use native.Mathlib.Omega.{arith}
use lib.Dec.{eqb}
use borrow.Author.Tests.{eq-eqb, eqb-true}
use Rattle.std.proofs.Common.{Option, Some, None}
use Rattle.cells.specs.Rulings.{Ruled}
use Rattle.cells.specs.Sights.{is_there, gone, blocks_of}
use Rattle.cells.specs.declared.Mark.TheVariants.{Clear, Set}
use Rattle.cells.specs.declared.Note.TheVariants.{Full}
use Rattle.cells.specs.declared.Position.TheVariants.{Work1, Work2, Work3, Work4, Work5, Wind1, Wind2, Wind3, Wind4}
use Rattle.cells.specs.declared.Position.{Position}
use Rattle.cells.specs.declared.Removal.{Removal}
use Rattle.cells.specs.declared.Seen.{Seen}
use Rattle.cells.specs.declared.Store.TheVariants.{Nothing, NativeTo, AccessibleTo, Marked, Graded, FailedTo, Noted, NoteEmptied}
use Rattle.cells.specs.declared.Store.{Store}
use Rattle.conduct.proofs.Shapes.{still, moving, stopping, Shape, quiet, clears, notes, advances, winds, Grading, refuses, grades, each, choose}
use Rattle.device.proofs.Stores.{store_at}
use Rattle.device.specs.Machine.{Event, command, step, media_error, power_cut, comreset, hardware_reset, software_reset, grade, rule, told}
use Rattle.device.specs.Record.{under_way, removed_number, see}
use Rattle.device.specs.declared.Device.{Device}
use Rattle.paper.specs.Elements.{removed_health}
use Rattle.paper.specs.Registers.{low48, identifier_of}
use Rattle.paper.specs.Table12.{aborts}
use Rattle.paper.specs.declared.Command.TheVariants.{Remove}
use Rattle.paper.specs.declared.ElementId.{ElementId}
use Rattle.paper.specs.declared.Lba.{Lba}
use Rattle.paper.specs.declared.Registers.{Registers}
use Rattle.paper.specs.declared.Security.{Security}
use Rattle.removal.specs.Remove.{limit_met, too_small, too_high, removal_of, judge_room, judge_found, rule_remove}
use Rattle.steps.specs.Steps.{marking, next_of}
use Rattle.table.specs.Elements.{is_storage, size, identifier_at}
use Rattle.history.specs.Ledger.{of_store}
use Rattle.history.specs.Progress.{note_of, Acceptance, Clearance, NotingStore, At, MarkingStore, SettingStore}
use Rattle.history.proofs.Places.{hit_there}

-- ## Acceptance

-- whether a store is the note, and of which removal
abbrev is_note : Store → Bool
is_note x = of_store (λ place. false) (λ w. true) (λ m. false) false x

abbrev noted : Removal → Store → Removal
noted other x = of_store (λ place. other) (λ w. w) (λ m. other) other x

no_note : {x : Store} {w : Removal} → is_note x ≡ false → x ≡ Noted w → ⊥
no_note n q = false≢true (sym n ∙ ap is_note q)

-- of what is seen of the element
module _ (d : Device) (id : ElementId) (lba : Lba) where
  abbrev removal : Option Seen → Removal
  removal x = removal_of d.cells.native id lba (blocks_of x)

  -- answered 0, a ruling has made the note of this element
  abbrev Notes : Option Seen → Ruled → Type 0
  Notes x r = r.number ≡ 0 → r.store ≡ Noted (removal x)

  notes_room : (s : Seen) → Notes (Some s) (judge_room d.position d.cells.native id lba s.part.blocks)
  unfolding judge_room
  notes_room s =
      choose (Notes (Some s)) (too_small d.cells.native.0 s.part.blocks) (λ _ z. absurd (omega arith))
      (λ _. choose (Notes (Some s)) (too_high d.cells.native.0 s.part.blocks lba.0) (λ _ z. absurd (omega arith)) (λ _ z. refl))

  notes_found : (x : Option Seen) → gone x ≡ false → Notes x (judge_found d.table d.cells d.position id lba x)
  unfolding judge_found
  notes_found None stands = λ z. absurd (omega arith)
  notes_found (Some s) stands =
      choose (Notes (Some s)) (not (is_storage s.part)) (λ _ z. absurd (omega arith))
      (λ _. choose (Notes (Some s)) (removed_health s.health) (λ q z. absurd (true≢false (sym q ∙ stands)))
      (λ _. choose (Notes (Some s)) (limit_met d.table.limit (removed_number d)) (λ _ z. absurd (omega arith)) (λ _. notes_room s)))

  -- for an element at FFh, answered 0, it has cleared the mark
  abbrev Clears : Ruled → Type 0
  Clears r = r.number ≡ 0 → r.store ≡ FailedTo Clear

  clears_found : (x : Option Seen) → gone x ≡ true → Clears (judge_found d.table d.cells d.position id lba x)
  unfolding judge_found
  clears_found None at = λ z. absurd (omega arith)
  clears_found (Some s) at =
      choose Clears (not (is_storage s.part)) (λ _ z. absurd (omega arith))
      (λ _. choose Clears (removed_health s.health) (λ _ z. refl) (λ stands z. absurd (true≢false (sym at ∙ stands))))

  -- a ruling that has made a note has made that one, and is answered 0; its element is not at FFh
  abbrev Noting : Option Seen → Ruled → Type 0
  Noting x r = (w : Removal) → r.store ≡ Noted w → (r.number ≡ 0) × (w ≡ removal x) × (gone x ≡ false)

  noting_room : (s : Seen) → gone (Some s) ≡ false → Noting (Some s) (judge_room d.position d.cells.native id lba s.part.blocks)
  unfolding judge_room
  noting_room s stands =
      choose (Noting (Some s)) (too_small d.cells.native.0 s.part.blocks) (λ _ w q. absurd (no_note refl q))
      (λ _. choose (Noting (Some s)) (too_high d.cells.native.0 s.part.blocks lba.0) (λ _ w q. absurd (no_note refl q))
      (λ _ w q. (refl, sym (ap (noted w) q), stands)))

  noting_found : (x : Option Seen) → Noting x (judge_found d.table d.cells d.position id lba x)
  unfolding judge_found
  noting_found None = λ w q. absurd (no_note refl q)
  noting_found (Some s) =
      choose (Noting (Some s)) (not (is_storage s.part)) (λ _ w q. absurd (no_note refl q))
      (λ _. choose (Noting (Some s)) (removed_health s.health) (λ _ w q. absurd (no_note refl q))
      (λ stands. choose (Noting (Some s)) (limit_met d.table.limit (removed_number d)) (λ _ w q. absurd (no_note refl q))
      (λ _. noting_room s stands)))

-- 7Ch answered 0 has passed the first two checks
module _ (d : Device) (security : Security) (r : Registers) (room : ℕ) (is_7_c : r.code ≡ 0x7C) (z : (told d (command security r room)).number ≡ 0) where
  abbrev judgement : Ruled
  judgement = judge_found d.table d.cells d.position (identifier_of r) (low48 r.lba) (see d (identifier_of r))

  removed_by : (x : Store) → (judgement.number ≡ 0 → judgement.store ≡ x) → (rule d (command security r room)).store ≡ x
  removed_by x found =
      let removes : rule d (command security r room) ≡ rule_remove d.table d.cells d.position security r = rw (eq-eqb _ _ is_7_c) in
      let Makes : Ruled → Type 0 = λ y. y.number ≡ 0 → y.store ≡ x in
      subst⁻¹ Makes removes
      (choose Makes (aborts Remove security) (λ _ y. absurd (omega arith)) (λ _. choose Makes (under_way d) (λ _ y. absurd (omega arith)) (λ _. found))) z

pub acceptance : Acceptance
acceptance d security r room is_7_c z standing =
    removed_by d security r room is_7_c z (Noted (note_of d r)) (notes_found d (identifier_of r) (low48 r.lba) (see d (identifier_of r)) standing)

pub clearance : Clearance
clearance d security r room is_7_c z gone_by =
    removed_by d security r room is_7_c z (FailedTo Clear) (clears_found d (identifier_of r) (low48 r.lba) (see d (identifier_of r)) gone_by)

-- ## Stores that one event alone makes

-- what a store tells of its event, and of the position after it
abbrev pub Tells : Device → Event → Position → Store → Type 0
Tells d e next Nothing = Unit {0}
Tells d e next (NativeTo v) = Unit {0}
Tells d e next (AccessibleTo v) = Unit {0}
Tells d e next (Marked place) = (e ≡ step) × ((w : Removal) × At Work3 w d × (place < size d.table) × (w.element.0 ≡ identifier_at d.table place))
Tells d e next (Graded place h) = Unit {0}
Tells d e next (FailedTo Clear) = Unit {0}
Tells d e next (FailedTo Set) = (e ≡ step) × ((w : Removal) × At Wind3 w d)
Tells d e next (Noted w) = (next ≡ Work1) × (is_there (see d w.element) ≡ true)
Tells d e next NoteEmptied = Unit {0}

module _ (d : Device) where
  tells_still : (e : Event) (r : Ruled) → Shape d still r → Tells d e r.next r.store
  tells_still e r (quiet n) = tt
  tells_still e r clears = tt
  tells_still e r (notes id lba s n standing) = (refl, ap is_there standing.hit)

  tells_stop : (e : Event) (r : Ruled) → Shape d stopping r → Tells d e r.next r.store
  tells_stop e r (quiet n) = tt
  tells_stop e r (winds w n) = tt

  tells_step : (w : Removal) → d.cells.note ≡ Full w → (p : Position) → d.position ≡ p → Tells d step (next_of p) (store_at d w p)
  tells_step w n Work1 e = tt
  tells_step w n Work2 e = tt
  tells_step w n Work3 e = marks (see d w.element) refl
    where
      marks : (x : Option Seen) → see d w.element ≡ x → Tells d step Work4 (marking x)
      marks None q = tt
      marks (Some s) q = let there = hit_there d.table d refl w.element s q in (refl, (w, record { note = n; position = e }, there.0, sym there.1))
  tells_step w n Work4 e = tt
  tells_step w n Work5 e = tt
  tells_step w n Wind1 e = tt
  tells_step w n Wind2 e = tt
  tells_step w n Wind3 e = (refl, (w, record { note = n; position = e }))
  tells_step w n Wind4 e = tt

  tells_moving : (r : Ruled) → Shape d moving r → Tells d step r.next r.store
  tells_moving r (quiet n) = tt
  tells_moving r (advances w n) = tells_step w n d.position refl

  tells_grade : (e : Event) (id : ElementId) (h : ℕ) (r : Ruled) → Grading d id h r → Tells d e r.next r.store
  tells_grade e id h r refuses = tt
  tells_grade e id h r (grades s standing g) = tt

  pub store_tells : (e : Event) → Tells d e (rule d e).next (rule d e).store
  store_tells (command s x room) = tells_still _ _ (each d (command s x room))
  store_tells step = tells_moving _ (each d step)
  store_tells media_error = tells_stop _ _ (each d media_error)
  store_tells power_cut = tells_stop _ _ (each d power_cut)
  store_tells comreset = tt
  store_tells hardware_reset = tt
  store_tells software_reset = tt
  store_tells (grade id h) = tells_grade _ id h _ (each d (grade id h))

pub marking_store : MarkingStore
marking_store d e place q = subst (Tells d e (rule d e).next) q (store_tells d e)

pub setting_store : SettingStore
setting_store d e q = subst (Tells d e (rule d e).next) q (store_tells d e)

-- ## The note

module _ (d : Device) where
  step_none : (w : Removal) (p : Position) → is_note (store_at d w p) ≡ false
  step_none w Work1 = refl
  step_none w Work2 = refl
  step_none w Work3 = go (see d w.element)
    where
      go : (x : Option Seen) → is_note (marking x) ≡ false
      go None = refl
      go (Some s) = refl
  step_none w Work4 = refl
  step_none w Work5 = refl
  step_none w Wind1 = refl
  step_none w Wind2 = refl
  step_none w Wind3 = refl
  step_none w Wind4 = refl

  moving_none : (r : Ruled) → Shape d moving r → is_note r.store ≡ false
  moving_none r (quiet n) = refl
  moving_none r (advances w n) = step_none w d.position

  stopping_none : (r : Ruled) → Shape d stopping r → is_note r.store ≡ false
  stopping_none r (quiet n) = refl
  stopping_none r (winds w n) = refl

  grading_none : (id : ElementId) (h : ℕ) (r : Ruled) → Grading d id h r → is_note r.store ≡ false
  grading_none id h r refuses = refl
  grading_none id h r (grades s standing g) = refl

  -- a command that makes a note is an accepted 7Ch
  module _ (s : Security) (r : Registers) (room : ℕ) (w : Removal) where
    abbrev Says : Ruled → Type 0
    Says x = x.store ≡ Noted w → (r.code ≡ 0x7C) × (x.number ≡ 0) × (under_way d ≡ false) × (w ≡ note_of d r) × (gone (see d (identifier_of r)) ≡ false)

    noting_command : Says (rule d (command s r room))
    noting_command =
        choose Says (eqb r.code 0x7C)
        (λ is_7_c. choose Says (aborts Remove s) (λ _ q. absurd (no_note refl q))
        (λ _. choose Says (under_way d) (λ _ q. absurd (no_note refl q))
        (λ rests q. let so = noting_found d (identifier_of r) (low48 r.lba) (see d (identifier_of r)) w q in (eqb-true _ _ is_7_c, so.0, rests, so.1, so.2))))
        (λ _ q. absurd (no_note refl q))

pub noting_store : NotingStore
noting_store d (command s r room) w q =
    let so = noting_command d s r room w q in
    let there : is_there (see d w.element) ≡ true = (subst (Tells d (command s r room) (rule d (command s r room)).next) q (store_tells d (command s r room))).1 in
    (s, r, room, refl, so.0, so.1, so.2, so.3, there, subst⁻¹ (λ (v : Removal). gone (see d v.element) ≡ false) so.3 so.4)
noting_store d step w q = absurd (no_note (moving_none d _ (each d step)) q)
noting_store d media_error w q = absurd (no_note (stopping_none d _ (each d media_error)) q)
noting_store d power_cut w q = absurd (no_note (stopping_none d _ (each d power_cut)) q)
noting_store d comreset w q = absurd (no_note refl q)
noting_store d hardware_reset w q = absurd (no_note refl q)
noting_store d software_reset w q = absurd (no_note refl q)
noting_store d (grade id h) w q = absurd (no_note (grading_none d id h _ (each d (grade id h))) q)
