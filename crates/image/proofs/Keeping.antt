-- What is put down in an image: a law for each way out; then, of each number, what is put down is read, and what is read and put down again stays.
use Prim.Native.Nat.{ℕ, min}
use mathlib.Core.Bool.{Bool, true, false, cond, not}
use mathlib.Core.List.{List}
use mathlib.Core.Path.{◌≡◌, refl, sym, ap, ◌∙◌}
use borrow.Author.Tests.{eqb-true, eq-eqb, ne_eqb, not-true, not-false}
use lib.Dec.{eqb}
use lib.ListN.{replicate}
use Rattle.cells.specs.Cells.{is_full, is_set}
use Rattle.cells.specs.declared.Cells.{Cells}
use Rattle.cells.specs.declared.Mark.TheVariants.{Clear, Set}
use Rattle.cells.specs.declared.Mark.{Mark}
use Rattle.cells.specs.declared.Note.TheVariants.{Empty, Full}
use Rattle.cells.specs.declared.Note.{Note}
use Rattle.cells.specs.declared.Position.TheVariants.{Work1, Work2, Work3, Work4, Work5, Wind1, Wind2, Wind3, Wind4}
use Rattle.cells.specs.declared.Position.{Position}
use Rattle.cells.specs.declared.Removal.{Removal}
use Rattle.device.specs.declared.Device.{Device}
use Rattle.paper.specs.Flags.{is_on}
use Rattle.paper.specs.declared.ElementId.{ElementId}
use Rattle.paper.specs.declared.Lba.{Lba}
use Rattle.table.specs.declared.Table.{Table}
use Rattle.image.specs.Keeping.{flag_for, place_for, element_for, old_for, new_for, keeps, built}
use Rattle.image.specs.Private.{with_addresses, with_healths, with_mark, with_note, at_position}
use Rattle.image.specs.Promises.{KeptStays}
use Rattle.image.specs.Reading.{mark_of, note_of, position_of, place_of, removal_in, device_of}
use Rattle.image.specs.declared.Image.{Image}

-- ## Ways out

module _ (flag : ℕ) (on : Bool) where
  pub flag_off : not on ≡ true → 0 ≡ flag_for flag on
  flag_off n = sym (rw (not-true on n))

  pub flag_new : not on ≡ false → flag ≡ 0 → 1 ≡ flag_for flag on
  flag_new y z = sym (rw (not-false on y, eq-eqb _ _ z))

  pub flag_old : not on ≡ false → (flag ≡ 0 → ⊥) → flag ≡ flag_for flag on
  flag_old y z = sym (rw (not-false on y, ne_eqb _ _ z))

module _ (n : ℕ) (p q : Position) (is_q : q ≡ position_of n) (a b : ℕ) (is_a : a ≡ place_of p) (is_b : b ≡ place_of q) where
  pub place_same : b ≡ a → n ≡ place_for n p
  place_same e = sym (rw (eq-eqb _ _ (sym (ap place_of is_q) ∙ sym is_b ∙ e ∙ is_a)))

  pub place_next : (b ≡ a → ⊥) → a ≡ place_for n p
  place_next e = is_a ∙ sym (rw (ne_eqb _ _ (λ z. e (is_b ∙ ap place_of is_q ∙ z ∙ sym is_a))))

pub note_put : (i : Image) (n : Note) (e : ElementId) (o v : Lba) (b : Bool) (f : ℕ) → e ≡ element_for i.element n → o ≡ old_for i.old n
    → v ≡ new_for i.new n → b ≡ is_full n → f ≡ flag_for i.full b
    → record {
      parts = i.parts;
      native = i.native;
      accessible = i.accessible;
      old = o;
      new = v;
      element = e;
      count = i.count;
      limit = i.limit;
      full = f;
      failed = i.failed;
      position = i.position;
      healths = i.healths;
    } ≡ with_note n i
note_put i n e o v b f is_e is_o is_v is_b is_f = rw (is_f, is_b, is_e, is_o, is_v) refl

pub built_anew : (t : Table) (n : ℕ) → n ≡ min t.count 128
    → record {
      parts = t.parts;
      native = record { 0 = 0 };
      accessible = record { 0 = 0 };
      old = record { 0 = 0 };
      new = record { 0 = 0 };
      element = record { 0 = 0 };
      count = n;
      limit = t.limit;
      full = 0;
      failed = 0;
      position = 0;
      healths = replicate 128 0;
    } ≡ built t
unfolding built
built_anew t n is_n = rw is_n refl

pub all_kept : (i : Image) (d : Device) (p n m h r : Image) → p ≡ at_position d.position i → n ≡ with_note d.cells.note p
    → m ≡ with_mark d.cells.failed n → h ≡ with_healths d.cells.healths m → r ≡ with_addresses d.cells.native d.cells.accessible h
    → r ≡ keeps i d
unfolding keeps
all_kept i d p n m h r is_p is_n is_m is_h is_r =
    is_r ∙ ap (with_addresses d.cells.native d.cells.accessible) (is_h ∙ ap (with_healths d.cells.healths) (is_m
    ∙ ap (with_mark d.cells.failed) (is_n ∙ ap (with_note d.cells.note) is_p)))

-- ## What is put down again stays

mark_stays : (flag : ℕ) → flag_for flag (is_set (mark_of flag)) ≡ flag
unfolding is_set
mark_stays flag = go (eqb flag 0) refl
  where
    go : (b : Bool) → eqb flag 0 ≡ b → cond (is_set (cond (not b) Set Clear)) (cond b 1 flag) 0 ≡ flag
    go true e = sym (eqb-true flag 0 e)
    go false e = refl

note_stays : (flag : ℕ) (w : Removal) → flag_for flag (is_full (note_of flag w)) ≡ flag
note_stays flag w = go (eqb flag 0) refl
  where
    go : (b : Bool) → eqb flag 0 ≡ b → cond (is_full (cond (not b) (Full w) Empty)) (cond b 1 flag) 0 ≡ flag
    go true e = sym (eqb-true flag 0 e)
    go false e = refl

place_stays : (n : ℕ) → place_for n (position_of n) ≡ n
place_stays n = rw (eq-eqb (place_of (position_of n)) (place_of (position_of n)) refl) refl

-- the numbers of a note, full or empty
module _ (w : Removal) where
  element_stays : (b : Bool) → element_for w.element (cond b (Full w) Empty) ≡ w.element
  element_stays true = refl
  element_stays false = refl

  old_stays : (b : Bool) → old_for w.old (cond b (Full w) Empty) ≡ w.old
  old_stays true = refl
  old_stays false = refl

  new_stays : (b : Bool) → new_for w.new (cond b (Full w) Empty) ≡ w.new
  new_stays true = refl
  new_stays false = refl

abbrev healed : Image → List ℕ → Cells
healed i hs =
    record { native = i.native; accessible = i.accessible; healths = hs; failed = mark_of i.failed; note = note_of i.full (removal_in i) }

-- an image with its own addresses, note and mark put down again, these healths, and this position
own_kept : (i : Image) (hs : List ℕ) (p : Position)
    → with_healths hs (at_position p i) ≡ keeps i (record { table = (device_of i).table; cells = healed i hs; position = p })
unfolding keeps device_of
own_kept i hs p =
    sym (λ k.
    record {
      parts = i.parts;
      native = i.native;
      accessible = i.accessible;
      old = old_stays (removal_in i) (is_on i.full) k;
      new = new_stays (removal_in i) (is_on i.full) k;
      element = element_stays (removal_in i) (is_on i.full) k;
      count = i.count;
      limit = i.limit;
      full = note_stays i.full (removal_in i) k;
      failed = mark_stays i.failed k;
      position = place_for i.position p;
      healths = hs;
    })

pub moved_kept : (i : Image) (p : Position) → at_position p i ≡ keeps i (record { table = (device_of i).table; cells = (device_of i).cells; position = p })
unfolding device_of
moved_kept i p = own_kept i i.healths p

own_position : (i : Image) → i ≡ at_position (position_of i.position) i
own_position i =
    λ k.
    record {
      parts = i.parts;
      native = i.native;
      accessible = i.accessible;
      old = i.old;
      new = i.new;
      element = i.element;
      count = i.count;
      limit = i.limit;
      full = i.full;
      failed = i.failed;
      position = sym (place_stays i.position) k;
      healths = i.healths;
    }

pub graded_kept : (i : Image) (hs : List ℕ)
    → with_healths hs i ≡ keeps i (record { table = (device_of i).table; cells = healed i hs; position = (device_of i).position })
unfolding device_of
graded_kept i hs = ap (with_healths hs) (own_position i) ∙ own_kept i hs (position_of i.position)

pub kept_stays : KeptStays
unfolding device_of
kept_stays i = sym (graded_kept i i.healths)

-- ## What is put down is read

mark_back : (flag : ℕ) (m : Mark) → mark_of (flag_for flag (is_set m)) ≡ m
unfolding is_set
mark_back flag Clear = refl
mark_back flag Set = go (eqb flag 0) refl
  where
    go : (b : Bool) → eqb flag 0 ≡ b → mark_of (cond b 1 flag) ≡ Set
    go true e = refl
    go false e = rw e refl

note_back : (flag : ℕ) (was : Removal) (n : Note)
    → note_of (flag_for flag (is_full n)) (record { element = element_for was.element n; old = old_for was.old n; new = new_for was.new n }) ≡ n
note_back flag was Empty = refl
note_back flag was (Full w) = go (eqb flag 0) refl
  where
    go : (b : Bool) → eqb flag 0 ≡ b → note_of (cond b 1 flag) w ≡ Full w
    go true e = refl
    go false e = rw e refl

step_back : (p : Position) → position_of (place_of p) ≡ p
step_back Work1 = refl
step_back Work2 = refl
step_back Work3 = refl
step_back Work4 = refl
step_back Work5 = refl
step_back Wind1 = refl
step_back Wind2 = refl
step_back Wind3 = refl
step_back Wind4 = refl

place_back : (n : ℕ) (p : Position) → position_of (place_for n p) ≡ p
place_back n p = go (eqb (place_of (position_of n)) (place_of p)) refl
  where
    go : (b : Bool) → eqb (place_of (position_of n)) (place_of p) ≡ b → position_of (cond b n (place_of p)) ≡ p
    go true e = sym (step_back (position_of n)) ∙ ap position_of (eqb-true (place_of (position_of n)) (place_of p) e) ∙ step_back p
    go false e = step_back p

-- of a device with the same table
pub read_back : (i : Image) (d : Device) → (device_of i).table ≡ d.table → device_of (keeps i d) ≡ d
unfolding keeps device_of
read_back i d same =
    λ k.
    record {
      table = same k;
      cells =
          record {
            native = d.cells.native;
            accessible = d.cells.accessible;
            healths = d.cells.healths;
            failed = mark_back i.failed d.cells.failed k;
            note = note_back i.full (removal_in i) d.cells.note k;
          };
      position = place_back i.position d.position k;
    }
