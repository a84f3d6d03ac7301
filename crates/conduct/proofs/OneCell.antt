-- At most one cell differs after a call: each store writes its own.
use Prim.Native.Nat.{ℕ}
use mathlib.Core.Path.{◌≡◌, refl, ap}
use lib.Seq.{get_or-set_other}
use Rattle.cells.specs.Rulings.{Ruled}
use Rattle.cells.specs.declared.Position.{Position}
use Rattle.cells.specs.declared.Store.TheVariants.{Nothing, NativeTo, AccessibleTo, Marked, Graded, FailedTo, Noted, NoteEmptied}
use Rattle.cells.specs.declared.Store.{Store}
use Rattle.device.specs.Machine.{rule}
use Rattle.device.specs.Record.{carried_out}
use Rattle.device.specs.declared.Device.{Device}
use Rattle.conduct.specs.Promises.{Cell, native_max, accessible_max, failed_mark, note, health, health_is, cell_of, AtMostOneCell}

-- the cell that a store writes; one that writes none is given any
abbrev written : Store → Cell
written Nothing = note
written (NativeTo v) = native_max
written (AccessibleTo v) = accessible_max
written (Marked place) = health place
written (Graded place h) = health place
written (FailedTo m) = failed_mark
written (Noted w) = note
written NoteEmptied = note

own : {A : Type 0} {c : Cell} → (c ≡ c → ⊥) → A
own n = absurd (n refl)

module _ (d : Device) (n : ℕ) (p : Position) where
  abbrev after : Store → Device
  after s = carried_out d (record { number = n; store = s; next = p })

  -- another health stays
  elsewhere : (place h i : ℕ) → (health i ≡ health place → ⊥) → cell_of (after (Graded place h)) (health i) ≡ cell_of d (health i)
  elsewhere place h i ne = ap health_is (get_or-set_other d.cells.healths place i h 0 (λ e. ne (ap health e)))

  others : (s : Store) (c : Cell) → (c ≡ written s → ⊥) → cell_of (after s) c ≡ cell_of d c
  others Nothing native_max ne = refl
  others Nothing accessible_max ne = refl
  others Nothing failed_mark ne = refl
  others Nothing note ne = refl
  others Nothing (health i) ne = refl
  others (NativeTo v) native_max ne = own ne
  others (NativeTo v) accessible_max ne = refl
  others (NativeTo v) failed_mark ne = refl
  others (NativeTo v) note ne = refl
  others (NativeTo v) (health i) ne = refl
  others (AccessibleTo v) native_max ne = refl
  others (AccessibleTo v) accessible_max ne = own ne
  others (AccessibleTo v) failed_mark ne = refl
  others (AccessibleTo v) note ne = refl
  others (AccessibleTo v) (health i) ne = refl
  others (Marked place) native_max ne = refl
  others (Marked place) accessible_max ne = refl
  others (Marked place) failed_mark ne = refl
  others (Marked place) note ne = refl
  others (Marked place) (health i) ne = elsewhere place 0xFF i ne
  others (Graded place h) native_max ne = refl
  others (Graded place h) accessible_max ne = refl
  others (Graded place h) failed_mark ne = refl
  others (Graded place h) note ne = refl
  others (Graded place h) (health i) ne = elsewhere place h i ne
  others (FailedTo m) native_max ne = refl
  others (FailedTo m) accessible_max ne = refl
  others (FailedTo m) failed_mark ne = own ne
  others (FailedTo m) note ne = refl
  others (FailedTo m) (health i) ne = refl
  others (Noted w) native_max ne = refl
  others (Noted w) accessible_max ne = refl
  others (Noted w) failed_mark ne = refl
  others (Noted w) note ne = own ne
  others (Noted w) (health i) ne = refl
  others NoteEmptied native_max ne = refl
  others NoteEmptied accessible_max ne = refl
  others NoteEmptied failed_mark ne = refl
  others NoteEmptied note ne = own ne
  others NoteEmptied (health i) ne = refl

pub at_most_one_cell : AtMostOneCell
at_most_one_cell d e =
    let r : Ruled = rule d e in
    record { cell = written r.store; others = others d r.number r.next r.store; table = refl }
