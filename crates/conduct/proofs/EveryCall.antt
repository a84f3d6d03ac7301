-- No second answer fits; a refusal leaves the device; the table stays; a tidy device stays tidy; a removal ends at rest (specs/Promises).
use Prim.Native.Nat.{ℕ, ◌-◌, ◌≤◌, ◌<◌}
use mathlib.Core.Bool.{Bool, true, false, cond}
use mathlib.Core.List.{List}
use mathlib.Core.Path.{◌≡◌, refl, sym, subst, ◌∙◌}
use native.Mathlib.Omega.{arith}
use lib.ListN.{length, drop, set, replicate, length-take, length-map}
use lib.Seq.{drop-set-lt}
use Rattle.std.proofs.Common.{Option, Some, None}
use Rattle.cells.proofs.Sights.{seen_hit}
use Rattle.cells.specs.Cells.{make}
use Rattle.cells.specs.Rulings.{Ruled}
use Rattle.cells.specs.declared.Note.TheVariants.{Empty, Full}
use Rattle.cells.specs.declared.Position.TheVariants.{Work1, Work2, Work3, Work4, Work5, Wind1, Wind2, Wind3, Wind4}
use Rattle.cells.specs.declared.Position.{Position}
use Rattle.cells.specs.declared.Removal.{Removal}
use Rattle.cells.specs.declared.Seen.{Seen}
use Rattle.cells.specs.declared.Store.TheVariants.{Nothing, Marked}
use Rattle.device.proofs.Stores.{store_at}
use Rattle.device.specs.Record.{carried_out, tell, see}
use Rattle.device.specs.declared.Device.{Device}
use Rattle.paper.proofs.Once.{told_once}
use Rattle.paper.specs.declared.ElementId.{ElementId}
use Rattle.steps.specs.Steps.{marking, next_of}
use Rattle.table.proofs.Search.{hits_there}
use Rattle.table.specs.Elements.{identifiers}
use Rattle.table.specs.Search.{place}
use Rattle.conduct.specs.Promises.{OneAnswer, Leaves, RefusalLeaves, KeepsTable, Tidy, KeepsTidy, EndsAtRest}
use Rattle.conduct.proofs.Shapes.{Kind, Shape, quiet, clears, notes, advances, winds, Grading, refuses, grades, every, marking_note}

-- ## No second answer

pub one_answer : OneAnswer
one_answer d r = told_once (tell d r)

-- ## A refusal leaves the device

pub refusal_leaves : RefusalLeaves
refusal_leaves d e = every d (λ (r : Ruled). Leaves d (tell d r)) shape grading e
  where
    shape : (k : Kind) (r : Ruled) → Shape d k r → Leaves d (tell d r)
    shape k r (quiet n) z = refl
    shape k r clears z = absurd (z refl)
    shape k r (notes id lba s n standing) z = absurd (z refl)
    shape k r (advances w n) z = absurd (z refl)
    shape k r (winds w n) z = absurd (z refl)

    grading : (id : ElementId) (h : ℕ) (r : Ruled) → Grading d id h r → Leaves d (tell d r)
    grading id h r refuses z = refl
    grading id h r (grades s standing g) z = absurd (z refl)

-- ## The table stays

pub keeps_table : KeepsTable
keeps_table d e = refl

-- ## Tidy devices stay tidy

full_not : {A : Type 0} {w : Removal} → Full w ≡ Empty → A
full_not q = absurd (let z : ◌≡◌ {A = ℕ} 0 1 = cc in omega arith)

-- what the search hits stands before the count
pub hit_below : (d : Device) (id : ElementId) (s : Seen) → see d id ≡ Some s → s.place < d.table.count
hit_below d id s q =
    let seen = seen_hit d.table d.cells id s q in
    let there : place id.0 (identifiers d.table) < length (identifiers d.table) = (hits_there id.0 (identifiers d.table) seen.0).0 in
    let few : length (identifiers d.table) ≤ d.table.count = simp (length-map, length-take) (omega arith) in
    subst (λ (x : Seen). x.place < d.table.count) seen.1 (omega (arith, there, few))

module _ (d : Device) where
  resting : (w : Removal) → d.cells.note ≡ Full w → (p : Position) → (make (store_at d w p) d.cells).note ≡ Empty → next_of p ≡ Work1
  resting w n Work1 q = full_not (sym n ∙ q)
  resting w n Work2 q = full_not (sym n ∙ q)
  resting w n Work3 q = full_not (sym n ∙ sym (marking_note (see d w.element) d.cells) ∙ q)
  resting w n Work4 q = full_not (sym n ∙ q)
  resting w n Work5 q = refl
  resting w n Wind1 q = full_not (sym n ∙ q)
  resting w n Wind2 q = full_not (sym n ∙ q)
  resting w n Wind3 q = full_not (sym n ∙ q)
  resting w n Wind4 q = refl

module _ (d : Device) (tidy : Tidy d) where
  abbrev zeros : List ℕ → Type 0
  zeros hs = drop d.table.count hs ≡ replicate (128 - d.table.count) 0

  stored : (place h : ℕ) → place < d.table.count → zeros (set d.cells.healths place h)
  stored place h below = drop-set-lt d.table.count d.cells.healths place h below ∙ tidy.healths

  marked : (x : Option Seen) → ((s : Seen) → x ≡ Some s → s.place < d.table.count) → zeros (make (marking x) d.cells).healths
  marked None below = tidy.healths
  marked (Some s) below = stored s.place 0xFF (below s refl)

  stepped : (w : Removal) (p : Position) → zeros (make (store_at d w p) d.cells).healths
  stepped w Work1 = tidy.healths
  stepped w Work2 = tidy.healths
  stepped w Work3 = marked (see d w.element) (hit_below d w.element)
  stepped w Work4 = tidy.healths
  stepped w Work5 = tidy.healths
  stepped w Wind1 = tidy.healths
  stepped w Wind2 = tidy.healths
  stepped w Wind3 = tidy.healths
  stepped w Wind4 = tidy.healths

  tidied_shape : (k : Kind) (r : Ruled) → Shape d k r → Tidy (carried_out d r)
  tidied_shape k r (quiet n) = tidy
  tidied_shape k r clears = record { slots = tidy.slots; healths = tidy.healths; rests = tidy.rests }
  tidied_shape k r (notes id lba s n standing) = record { slots = tidy.slots; healths = tidy.healths; rests = λ _. refl }
  tidied_shape k r (advances w n) = record { slots = tidy.slots; healths = stepped w d.position; rests = resting d w n d.position }
  tidied_shape k r (winds w n) = record { slots = tidy.slots; healths = tidy.healths; rests = λ q. full_not (sym n ∙ q) }

  tidied_grading : (id : ElementId) (h : ℕ) (r : Ruled) → Grading d id h r → Tidy (carried_out d r)
  tidied_grading id h r refuses = tidy
  tidied_grading id h r (grades s standing g) = record { slots = tidy.slots; healths = stored s.place h (hit_below d id s standing.hit); rests = tidy.rests }

pub keeps_tidy : KeepsTidy
keeps_tidy d e tidy = every d (λ (r : Ruled). Tidy (carried_out d r)) (tidied_shape d tidy) (tidied_grading d tidy) e

-- ## A call that ends a removal

pub ends_at_rest : EndsAtRest
ends_at_rest d e w full = every d Rested shape grading e
  where
    Rested : Ruled → Type 0
    Rested r = (carried_out d r).cells.note ≡ Empty → (carried_out d r).position ≡ Work1

    still_full : {A : Type 0} → d.cells.note ≡ Empty → A
    still_full q = full_not (sym full ∙ q)

    shape : (k : Kind) (r : Ruled) → Shape d k r → (carried_out d r).cells.note ≡ Empty → (carried_out d r).position ≡ Work1
    shape k r (quiet n) q = still_full q
    shape k r clears q = still_full q
    shape k r (notes id lba s n standing) q = still_full n
    shape k r (advances v n) q = resting d v n d.position q
    shape k r (winds v n) q = still_full q

    grading : (id : ElementId) (h : ℕ) (r : Ruled) → Grading d id h r → (carried_out d r).cells.note ≡ Empty → (carried_out d r).position ≡ Work1
    grading id h r refuses q = still_full q
    grading id h r (grades s standing g) q = still_full q
