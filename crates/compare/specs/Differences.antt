-- Document 02, 2026-01: "list by ascending identifier what is only in the older, only in the newer, or in both with a different type,
-- health, flag or capacity". The older page is s, the newer t.
use Rattle.std.specs.Prelude.{ℕ, zero, suc, Bool, cond, ◌&&◌, List, [], ◌∷◌, ◌++◌, eqb}
use Rattle.std.specs.Bool.{beq}
use Rattle.layout.specs.declared.Descriptor.{Descriptor}
use Rattle.paper.specs.declared.ElementId.{ElementId}
use Rattle.reach.specs.Pages.{count_of, element_at, bound_of, end_of}
use Rattle.compare.specs.declared.Line.TheVariants.{OnlyOlder, OnlyNewer, Changed}
use Rattle.compare.specs.declared.Line.{Line}

-- not: "a different type, health, flag or capacity"
abbrev pub alike : Descriptor → Descriptor → Bool
alike d e =
    eqb d.kind e.kind
    && (eqb d.health e.health && (beq d.restorable e.restorable && eqb d.capacity e.capacity))

-- ## One identifier

-- what stands of it in a page: nothing, or the number of its descriptor
pub data Standing : Type 0 where
  absent : Standing
  stands : ℕ → Standing

-- among the first n descriptors; where several have it, the last (an accepted page has no two)
abbrev pub standing_in : List ℕ → ℕ → ElementId → Standing
standing_in s zero id = absent
standing_in s (suc n) id = cond (eqb (element_at s n).id.0 id.0) (stands n) (standing_in s n id)

unfoldable pub standing : List ℕ → ElementId → Standing
standing s id = standing_in s (count_of s) id

-- "only in the older, only in the newer, or in both with a different .."
abbrev pub difference : List ℕ → List ℕ → Standing → Standing → List Line
difference s t absent absent = []
difference s t (stands i) absent = OnlyOlder i ∷ []
difference s t absent (stands j) = OnlyNewer j ∷ []
difference s t (stands i) (stands j) = cond (alike (element_at s i) (element_at t j)) [] (Changed (record { older = i; newer = j }) ∷ [])

unfoldable pub difference_at : List ℕ → List ℕ → ElementId → List Line
difference_at s t id = difference s t (standing s id) (standing t id)

-- ## All of them

-- of the n identifiers from a number on
unfoldable pub differences_in : List ℕ → List ℕ → ℕ → ℕ → List Line
differences_in s t from zero = []
differences_in s t from (suc n) = difference_at s t (record { 0 = from }) ++ differences_in s t (suc from) n

-- "by ascending identifier", from 1 to the last that is compared
unfoldable pub differences_of : List ℕ → List ℕ → List Line
differences_of s t = differences_in s t 1 (end_of (bound_of s t)).0
