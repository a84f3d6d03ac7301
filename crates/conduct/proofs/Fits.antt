-- Every event keeps the numbers of a device within their fields: a store of a health is FFh or a grade, and a note names an element of the
-- table.
use Prim.Native.Nat.{ℕ, ◌^◌, ◌<◌}
use mathlib.Core.Bool.{Bool, true, false, cond}
use mathlib.Core.List.{List}
use mathlib.Core.Path.{◌≡◌, sym, ap, subst, ◌∙◌}
use native.Mathlib.Omega.{arith}
use lib.ListN.{length, get_or, set, length-set, length-map, get_or-map}
use borrow.Author.Tests.{leb-true}
use Rattle.std.proofs.Common.{Option, Some, None}
use Rattle.cells.proofs.Sights.{seen_hit}
use Rattle.cells.specs.Cells.{make}
use Rattle.cells.specs.Rulings.{Ruled}
use Rattle.cells.specs.declared.Note.TheVariants.{Empty, Full}
use Rattle.cells.specs.declared.Note.{Note}
use Rattle.cells.specs.declared.Position.TheVariants.{Work1, Work2, Work3, Work4, Work5, Wind1, Wind2, Wind3, Wind4}
use Rattle.cells.specs.declared.Position.{Position}
use Rattle.cells.specs.declared.Removal.{Removal}
use Rattle.cells.specs.declared.Seen.{Seen}
use Rattle.cells.specs.declared.Store.TheVariants.{Nothing, Marked}
use Rattle.cells.specs.declared.Store.{Store}
use Rattle.device.proofs.Stores.{store_at}
use Rattle.device.specs.Record.{carried_out, see}
use Rattle.device.specs.declared.Device.{Device}
use Rattle.paper.specs.declared.ElementId.{ElementId}
use Rattle.slices.proofs.Lists.{every_take, every_at, every_set}
use Rattle.slices.specs.Lists.{Every}
use Rattle.steps.specs.Steps.{marking}
use Rattle.table.proofs.Search.{hits_there}
use Rattle.table.specs.Elements.{live, blank_part, identifiers}
use Rattle.table.specs.Search.{place}
use Rattle.table.specs.declared.Part.{Part}
use Rattle.conduct.specs.Fits.{PartFits, Fits}
use Rattle.conduct.specs.Promises.{KeepsFit}
use Rattle.conduct.proofs.Shapes.{Kind, Shape, quiet, clears, notes, advances, winds, Grading, refuses, grades, every}

-- the cells' part of it: the healths and the note
pub record CellsFit (hs : List ℕ) (n : Note) : Type 0 where
  pub celled : length hs ≡ 128
  pub healths : Every (λ (h : ℕ). h < 2 ^ 8) hs
  pub noted : (w : Removal) → n ≡ Full w → w.element.0 < 2 ^ 32

abbrev note_or : Removal → Note → Removal
note_or other Empty = other
note_or other (Full w) = w

pub one_removal : {v w : Removal} → Full v ≡ Full w → v ≡ w
one_removal {v} {w} q = ap (note_or w) q

module _ (d : Device) (fits : Fits d) where
  abbrev After : Store → Type 0
  After x = CellsFit (make x d.cells).healths (make x d.cells).note

  with_cells : (r : Ruled) → After r.store → Fits (carried_out d r)
  with_cells r c = record { full = fits.full; each = fits.each; celled = c.celled; healths = c.healths; limit = fits.limit; noted = c.noted }

  as_it_was : CellsFit d.cells.healths d.cells.note
  as_it_was = record { celled = fits.celled; healths = fits.healths; noted = fits.noted }

  emptied : CellsFit d.cells.healths Empty
  emptied = record { celled = fits.celled; healths = fits.healths; noted = λ w q. absurd (let z : ◌≡◌ {A = ℕ} 0 1 = cc in omega arith) }

  stored : (at h : ℕ) → h < 2 ^ 8 → CellsFit (set d.cells.healths at h) d.cells.note
  stored at h low =
      record {
        celled = length-set d.cells.healths at h ∙ fits.celled;
        healths = every_set (λ (x : ℕ). x < 2 ^ 8) d.cells.healths at h fits.healths low;
        noted = fits.noted;
      }

  -- what the search hits is an element of the table
  hit_fits : (id : ElementId) (s : Seen) → see d id ≡ Some s → id.0 < 2 ^ 32
  hit_fits id s q =
      let there = hits_there id.0 (identifiers d.table) (seen_hit d.table d.cells id s q).0 in
      let k : ℕ = place id.0 (identifiers d.table) in
      let same : id.0 ≡ (get_or (live d.table) k blank_part).id.0 = sym there.1 ∙ get_or-map (λ (p : Part). p.id.0) (live d.table) k blank_part in
      let fit = every_at PartFits (live d.table) k blank_part (simp length-map at there.0) (every_take PartFits d.table.count d.table.parts fits.each) in
      rw same fit.id

  noting : (w : Removal) (s : Seen) → see d w.element ≡ Some s → CellsFit d.cells.healths (Full w)
  noting w s hit =
      record {
        celled = fits.celled;
        healths = fits.healths;
        noted = λ v q. subst (λ (u : Removal). u.element.0 < 2 ^ 32) (one_removal q) (hit_fits w.element s hit);
      }

  marked : (x : Option Seen) → After (marking x)
  marked None = as_it_was
  marked (Some s) = stored s.place 0xFF (omega arith)

  stepped : (w : Removal) (p : Position) → After (store_at d w p)
  stepped w Work1 = as_it_was
  stepped w Work2 = as_it_was
  stepped w Work3 = marked (see d w.element)
  stepped w Work4 = as_it_was
  stepped w Work5 = emptied
  stepped w Wind1 = as_it_was
  stepped w Wind2 = as_it_was
  stepped w Wind3 = as_it_was
  stepped w Wind4 = emptied

  fit_shape : (k : Kind) (r : Ruled) → Shape d k r → Fits (carried_out d r)
  fit_shape k r (quiet n) = fits
  fit_shape k r clears = with_cells r as_it_was
  fit_shape k r (notes id lba s n standing) = with_cells r (noting _ s standing.hit)
  fit_shape k r (advances w n) = with_cells r (stepped w d.position)
  fit_shape k r (winds w n) = with_cells r as_it_was

  fit_grading : (id : ElementId) (h : ℕ) (r : Ruled) → Grading d id h r → Fits (carried_out d r)
  fit_grading id h r refuses = fits
  fit_grading id h r (grades s standing g) = with_cells r (stored s.place h (let low = leb-true h 0xCF g in omega (arith, low)))

pub keeps-fit : KeepsFit
keeps-fit d e fits = every d (λ (r : Ruled). Fits (carried_out d r)) (fit_shape d fits) (fit_grading d fits) e
