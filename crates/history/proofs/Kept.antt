-- The invariant of demand 3, over values and not over a device, and that every event keeps it: a ruling's shape says what it has to keep.
use Prim.Native.Nat.{ℕ, ◌≤◌, ◌<◌}
use mathlib.Core.Bool.{Bool, true, false, cond, ◌||◌, true≢false, false≢true}
use mathlib.Core.List.{List}
use mathlib.Core.Path.{◌≡◌, refl, sym, ap, ◌∙◌, subst, subst⁻¹}
use native.Mathlib.Omega.{arith}
use lib.Dec.{eqb}
use lib.ListN.{length, get_or, set, length-set}
use borrow.Author.Tests.{eqb-true, eq-eqb, ne_eqb, leb-true}
use Rattle.std.proofs.Common.{Option, Some, None}
use Rattle.cells.specs.Rulings.{Ruled, goes}
use Rattle.cells.specs.Sights.{gone}
use Rattle.cells.specs.declared.Note.TheVariants.{Empty, Full}
use Rattle.cells.specs.declared.Note.{Note}
use Rattle.cells.specs.declared.Position.TheVariants.{Work1, Work2, Work3, Work4, Work5, Wind1, Wind2, Wind3, Wind4}
use Rattle.cells.specs.declared.Position.{Position}
use Rattle.cells.specs.declared.Removal.{Removal}
use Rattle.cells.specs.declared.Seen.{Seen}
use Rattle.cells.specs.declared.Store.TheVariants.{Marked}
use Rattle.conduct.proofs.Shapes.{Kind, Standing, Shape, quiet, clears, notes, advances, winds, Grading, refuses, grades, each}
use Rattle.device.proofs.Stores.{store_at}
use Rattle.device.specs.Machine.{Event, command, step, media_error, power_cut, comreset, hardware_reset, software_reset, grade, rule}
use Rattle.device.specs.Record.{health_at, carried_out, see, wound_up}
use Rattle.device.specs.declared.Device.{Device}
use Rattle.paper.specs.Elements.{removed_health}
use Rattle.paper.specs.declared.ElementId.{ElementId}
use Rattle.paper.specs.declared.Lba.{Lba}
use Rattle.steps.specs.Steps.{marking, next_of}
use Rattle.table.specs.Elements.{identifiers, size, identifier_at, ascending}
use Rattle.table.specs.declared.Table.{Table}
use Rattle.history.specs.Ledger.{marked_by, marked, accepted_by, accepted, address_by, address, graded_by, grade_in}
use Rattle.history.specs.Runs.{History, ◌▹◌, entry}
use Rattle.history.specs.Starts.{Present}
use Rattle.history.proofs.Places.{hit_there, hit_present, present_hit, gone-told, stored_health}

-- what is known at each position: m says whether the noted element is marked, N is the maximum accepted last, n and c are the native and
-- the accessible one, a is the ledger's
abbrev pub Placed : Position → Bool → ℕ → ℕ → ℕ → ℕ → ℕ → Type 0
Placed Work1 m N n c new a = (m ≡ false) × (N ≡ new)
Placed Work2 m N n c new a = (m ≡ false) × (N ≡ new) × (n ≡ new)
Placed Work3 m N n c new a = (m ≡ false) × (N ≡ new) × (n ≡ new) × (c ≡ new)
Placed Work4 m N n c new a = (m ≡ true) × (n ≡ new) × (c ≡ new)
Placed Work5 m N n c new a = (m ≡ true) × (n ≡ new) × (c ≡ new)
Placed Wind1 m N n c new a = Unit {0}
Placed Wind2 m N n c new a = n ≡ a
Placed Wind3 m N n c new a = (n ≡ a) × (c ≡ a)
Placed Wind4 m N n c new a = (n ≡ a) × (c ≡ a)

-- a removal under way: its element is in the table, and the ledger's address is where winding up leads
pub record Going (t : Table) (id : ℕ) (m : Bool) (N A n c old new : ℕ) (p : Position) : Type 0 where
  pub there : Present t id
  pub aim : A ≡ cond m new old
  pub at : Placed p m N n c new A

abbrev pub Held : Table → (ℕ → Bool) → ℕ → ℕ → ℕ → ℕ → Position → Note → Type 0
Held t M N A n c p Empty = (n ≡ A) × (c ≡ A)
Held t M N A n c p (Full w) = Going t w.element.0 (M w.element.0) N A n c w.old.0 w.new.0 p

-- the health of a place by the ledger: M says which elements are marked, G the last grade of the others
abbrev pub ledger_health : Device → (ℕ → Bool) → (ℕ → ℕ → ℕ) → ℕ → ℕ
ledger_health start M G i = cond (M (identifier_at start.table i)) 0xFF (G (identifier_at start.table i) (health_at start i))

-- hs are the healths now
pub record Kept (start : Device) (M : ℕ → Bool) (G : ℕ → ℕ → ℕ) (N A : ℕ) (hs : List ℕ) (n c : ℕ) (p : Position) (note : Note) : Type 0 where
  pub celled : size start.table ≤ length hs
  pub same : (i : ℕ) → i < size start.table → get_or hs i 0 ≡ ledger_health start M G i
  pub low : (i : ℕ) → i < size start.table → M (identifier_at start.table i) ≡ false → G (identifier_at start.table i) (health_at start i) ≤ 0xCF
  pub only : (id : ℕ) → M id ≡ true → Present start.table id
  pub held : Held start.table M N A n c p note

abbrev pub Inv : Device → History → Device → Type 0
Inv start h d =
    Kept start (marked start h) (grade_in h) (accepted h) (address start h) d.cells.healths d.cells.native.0 d.cells.accessible.0 d.position d.cells.note

-- what is held of a note, at a position
abbrev pub HeldAt : Device → History → Device → Position → Note → Type 0
HeldAt start h d p note = Held start.table (marked start h) (accepted h) (address start h) d.cells.native.0 d.cells.accessible.0 p note

pub held_at : (start : Device) (h : History) (d : Device) → Inv start h d → (n : Note) → d.cells.note ≡ n → HeldAt start h d d.position n
held_at start h d inv n e = subst (HeldAt start h d d.position) e inv.held

-- FFh is the mark
is_mark : (m : Bool) (g : ℕ) → (m ≡ false → g ≤ 0xCF) → removed_health (cond m 0xFF g) ≡ m
is_mark true g k = refl
is_mark false g k = ne_eqb g 0xFF (λ z. let y : g ≤ 0xCF = k refl in omega arith)

pub wound_to : (m : Bool) (x y : Lba) → (cond m x y).0 ≡ cond m x.0 y.0
wound_to true x y = refl
wound_to false x y = refl

landed : (m : Bool) (a new old : ℕ) → a ≡ cond m new old → m ≡ true → a ≡ new
landed true a new old e t = e
landed false a new old e t = absurd (false≢true t)

mark_one : (b m : Bool) (g : ℕ) → cond b 0xFF (cond m 0xFF g) ≡ cond (b || m) 0xFF g
mark_one true m g = refl
mark_one false m g = refl

neither : (a b : Bool) → (a || b) ≡ false → b ≡ false
neither true b e = absurd (true≢false e)
neither false b e = e

module _ (start : Device) (asc : ascending 0 (identifiers start.table) ≡ true) (h : History) (d : Device) (built : d.table ≡ start.table) (inv : Inv start h d) where
  abbrev t : Table
  t = start.table

  abbrev M : ℕ → Bool
  M = marked start h

  abbrev G : ℕ → ℕ → ℕ
  G = grade_in h

  -- the invariant after a ruling, the grades being G' then
  abbrev After : (ℕ → ℕ → ℕ) → Ruled → Type 0
  After G' r =
      Kept start (λ id. marked_by t r.store id (M id)) G' (accepted_by r.store (accepted h)) (address_by r.store (accepted h) (address start h))
      (carried_out d r).cells.healths (carried_out d r).cells.native.0 (carried_out d r).cells.accessible.0 r.next (carried_out d r).cells.note

  -- the healths at FFh are those of the marked elements
  pub removed_marked : (i : ℕ) → i < size t → removed_health (health_at d i) ≡ M (identifier_at t i)
  removed_marked i k = ap removed_health (inv.same i k) ∙ is_mark (M (identifier_at t i)) (G (identifier_at t i) (health_at start i)) (inv.low i k)

  is_marked : (id : ElementId) → gone (see d id) ≡ M id.0
  is_marked id = gone-told t asc d built M removed_marked id (inv.only id.0)

  unmarked : (id : ElementId) (s : Seen) → Standing d id s → M id.0 ≡ false
  unmarked id s standing = sym (is_marked id) ∙ ap gone standing.hit ∙ standing.health

  wound : (w : Removal) → address start h ≡ cond (M w.element.0) w.new.0 w.old.0 → (wound_up d w).0 ≡ address start h
  wound w e =
      wound_to (gone (see d w.element)) w.new w.old
      ∙ ap (λ (m : Bool). cond m w.new.0 w.old.0) (is_marked w.element) ∙ sym e

  -- the healths after one was stored at a place
  stored : (at v i : ℕ) → at < size t → i < size t → get_or (set d.cells.healths at v) i 0 ≡ cond (eqb (identifier_at t at) (identifier_at t i)) v (ledger_health start M G i)
  stored at v i b k = stored_health t asc d.cells.healths inv.celled at v i b k ∙ ap (cond (eqb (identifier_at t at) (identifier_at t i)) v) (inv.same i k)

  -- the invariant with another hold on the note
  hold : {N n c : ℕ} {p : Position} {note : Note} → Held t M N (address start h) n c p note → Kept start M G N (address start h) d.cells.healths n c p note
  hold k = record { celled = inv.celled; same = inv.same; low = inv.low; only = inv.only; held = k }

  -- ## The marking store

  module _ (w : Removal) (e : d.cells.note ≡ Full w) where
    marked_at : HeldAt start h d Work3 (Full w) → (at : ℕ) → at < size t → identifier_at t at ≡ w.element.0 → After G (goes (Marked at) Work4)
    marked_at way at below is_id =
        record {
          celled = rw length-set inv.celled;
          same = λ i k. stored at 0xFF i below k ∙ mark_one (eqb (identifier_at t at) (identifier_at t i)) (M (identifier_at t i)) _;
          low = λ i k z. inv.low i k (neither (eqb (identifier_at t at) (identifier_at t i)) (M (identifier_at t i)) z);
          only = λ i. mark_only i (eqb (identifier_at t at) i) refl;
          held = rw e (record { there = way.there; aim = rw self way.at.1; at = (self, way.at.2, way.at.3) });
        }
      where
        self : (eqb (identifier_at t at) w.element.0 || M w.element.0) ≡ true
        self = rw (eq-eqb (identifier_at t at) w.element.0 is_id)

        mark_only : (i : ℕ) (b : Bool) → eqb (identifier_at t at) i ≡ b → (b || M i) ≡ true → Present t i
        mark_only i true q m = (at, below, eqb-true _ _ q)
        mark_only i false q m = inv.only i m

    keep_mark : HeldAt start h d Work3 (Full w) → After G (goes (store_at d w Work3) Work4)
    keep_mark way =
        let hit = present_hit t asc d built w.element way.there in
        let there = hit_there t d built w.element hit.0 hit.1 in
        subst⁻¹ (λ (x : Option Seen). After G (goes (marking x) Work4)) hit.1 (marked_at way hit.0.place there.0 there.1)

    -- ## A step

    on : {p q : Position} {n c : ℕ} → HeldAt start h d q (Full w) → Placed p (M w.element.0) (accepted h) n c w.new.0 (address start h)
        → Kept start M G (accepted h) (address start h) d.cells.healths n c p d.cells.note
    on {p} {q} {n} {c} way at = hold (subst⁻¹ (Held t M (accepted h) (address start h) n c p) e (record { there = way.there; aim = way.aim; at = at }))

    keep_step : (p : Position) → HeldAt start h d p (Full w) → After G (goes (store_at d w p) (next_of p))
    keep_step Work1 k = on k (k.at.0, k.at.1, refl)
    keep_step Work2 k = on k (k.at.0, k.at.1, k.at.2, refl)
    keep_step Work3 k = keep_mark k
    keep_step Work4 k = on k k.at
    keep_step Work5 k = hold (k.at.1 ∙ sym (landed _ _ _ _ k.aim k.at.0), k.at.2 ∙ sym (landed _ _ _ _ k.aim k.at.0))
    keep_step Wind1 k = on k (wound w k.aim)
    keep_step Wind2 k = on k (k.at, wound w k.aim)
    keep_step Wind3 k = on k k.at
    keep_step Wind4 k = hold k.at

  -- ## Every shape

  keep_shape : (k : Kind) (r : Ruled) → Shape d k r → After G r
  keep_shape k r (quiet n) = inv
  keep_shape k r clears = hold inv.held
  keep_shape k r (notes id lba s empty standing) =
      let free = unmarked id s standing in
      hold (record { there = hit_present t d built id s standing.hit; aim = rw free (sym (held_at start h d inv Empty empty).0); at = (free, refl) })
  keep_shape k r (advances w e) = keep_step w e d.position (held_at start h d inv (Full w) e)
  keep_shape k r (winds w e) = on w e (held_at start h d inv (Full w) e) tt

  -- ## Grades

  module _ (id : ElementId) (v : ℕ) where
    grade_one : (b m : Bool) (g : ℕ) → (b ≡ true → m ≡ false) → cond b v (cond m 0xFF g) ≡ cond m 0xFF (cond b v g)
    grade_one true m g k = rw (k refl)
    grade_one false m g k = refl

    low_one : (b : Bool) (g : ℕ) → v ≤ 0xCF → g ≤ 0xCF → cond b v g ≤ 0xCF
    low_one true g p q = p
    low_one false g p q = q

    keep_grade : (r : Ruled) → Grading d id v r → After (λ i g. graded_by (grade id v) r.number i (G i g)) r
    keep_grade r refuses = inv
    keep_grade r (grades s standing good) =
        let there = hit_there t d built id s standing.hit in
        record {
          celled = rw length-set inv.celled;
          same = λ i k.
              rw there.1 at (stored s.place v i there.0 k)
              ∙ grade_one (eqb id.0 (identifier_at t i)) (M (identifier_at t i)) _ (λ q. subst (λ (j : ℕ). M j ≡ false) (eqb-true id.0 (identifier_at t i) q) (unmarked id s standing));
          low = λ i k z. low_one (eqb id.0 (identifier_at t i)) _ (leb-true v 0xCF good) (inv.low i k z);
          only = inv.only;
          held = inv.held;
        }

  -- every event keeps it
  pub keep : (e : Event) → Inv start (h ▹ entry d e) (carried_out d (rule d e))
  keep (command s x room) = keep_shape _ _ (each d (command s x room))
  keep step = keep_shape _ _ (each d step)
  keep media_error = keep_shape _ _ (each d media_error)
  keep power_cut = keep_shape _ _ (each d power_cut)
  keep comreset = keep_shape _ _ (each d comreset)
  keep hardware_reset = keep_shape _ _ (each d hardware_reset)
  keep software_reset = keep_shape _ _ (each d software_reset)
  keep (grade id v) = keep_grade id v _ (each d (grade id v))
