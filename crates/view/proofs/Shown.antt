-- An element as a page shows it, whether it is asked for, the noted element, and what is stored: a law for each way out.
use Prim.Native.Nat.{ℕ}
use mathlib.Core.Bool.{Bool, true, false}
use mathlib.Core.List.{List}
use mathlib.Core.Path.{◌≡◌, sym, ap, ◌∙◌}
use Rattle.cells.specs.declared.Note.TheVariants.{Empty, Full}
use Rattle.cells.specs.declared.Note.{Note}
use Rattle.cells.specs.declared.Removal.{Removal}
use Rattle.layout.specs.Bytes.{all_ones, descriptor_bytes}
use Rattle.layout.specs.declared.Descriptor.{Descriptor}
use Rattle.paper.specs.Flags.{is_on}
use Rattle.paper.specs.declared.ElementId.{ElementId}
use Rattle.request.specs.Requests.{filter_of, report_type_of, takes_id, takes_type, takes_health}
use Rattle.request.specs.declared.Request.{Request}
use Rattle.slices.specs.Lists.{stored}
use Rattle.strokes.specs.Rows.{row_bytes}
use Rattle.strokes.specs.declared.Row.{Row}
use Rattle.table.specs.declared.Part.{Part}
use Rattle.words.specs.declared.Order.{Order}
use Rattle.view.specs.Shown.{capacity_of, shown_of, asks, busy_of}

-- ## An element

module _ (p : Part) (b : Bool) (is_b : b ≡ is_on p.unreported) where
  pub capacity_hidden : b ≡ true → all_ones ≡ capacity_of p
  capacity_hidden y = sym (rw (sym is_b ∙ y))

  pub capacity_told : b ≡ false → p.blocks ≡ capacity_of p
  capacity_told n = sym (rw (sym is_b ∙ n))

pub shown_made : (p : Part) (h c : ℕ) → c ≡ capacity_of p → record { id = p.id; restorable = false; kind = p.kind; health = h; capacity = c } ≡ shown_of p h
unfolding shown_of
shown_made p h c is_c = λ i. record { id = p.id; restorable = false; kind = p.kind; health = h; capacity = is_c i }

module _ (q : Request) (p : Part) (h : ℕ) (x : Descriptor) (is_x : x ≡ shown_of p h) (a : Bool) (is_a : a ≡ takes_id q x.id.0) where
  pub asks_id : a ≡ false → false ≡ asks q (shown_of p h)
  unfolding asks
  asks_id n = sym (rw (sym is_a ∙ n)) ∙ ap (asks q) is_x

  module _ (yes_id : a ≡ true) (b : Bool) (is_b : b ≡ takes_type (report_type_of q) x.kind) where
    pub asks_type : b ≡ false → false ≡ asks q (shown_of p h)
    unfolding asks
    asks_type n = sym (rw (sym is_a ∙ yes_id, sym is_b ∙ n)) ∙ ap (asks q) is_x

    pub asks_health : b ≡ true → (r : Bool) → r ≡ takes_health (filter_of q) x.health → r ≡ asks q (shown_of p h)
    unfolding asks
    asks_health y r is_r = is_r ∙ sym (rw (sym is_a ∙ yes_id, sym is_b ∙ y)) ∙ ap (asks q) is_x

-- ## The noted element

abbrev element : Note → ElementId
element n = record { 0 = busy_of n }

pub busy_none : (n : Note) → n ≡ Empty → ◌≡◌ {A = ElementId} (record { 0 = 0 }) (record { 0 = busy_of n })
busy_none n e = ap element (sym e)

pub busy_noted : (n : Note) (w : Removal) → n ≡ Full w → w.element ≡ record { 0 = busy_of n }
busy_noted n w e = ap element (sym e)

-- ## In the lent buffer

pub put_there : (d out e : List ℕ) (at : ℕ) (r : Row) → out ≡ stored d at (row_bytes r) → row_bytes r ≡ e → out ≡ stored d at e
put_there d out e at r is_out is_r = is_out ∙ ap (stored d at) is_r

pub put_shown : (o : Order) (d out : List ℕ) (at : ℕ) (r : Row) (x y : Descriptor) → out ≡ stored d at (row_bytes r) → row_bytes r ≡ descriptor_bytes o x → x ≡ y
    → out ≡ stored d at (descriptor_bytes o y)
put_shown o d out at r x y is_out is_r is_x = put_there d out (descriptor_bytes o y) at r is_out (is_r ∙ ap (descriptor_bytes o) is_x)
