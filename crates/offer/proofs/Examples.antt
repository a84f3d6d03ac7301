-- Document 01's rules for a table, tried at their edges: device A, and tables that are refused or only just good.
use Prim.Native.Nat.{ℕ, ◌-◌, ◌^◌}
use mathlib.Core.Bool.{Bool, true, ◌&&◌}
use mathlib.Core.List.{List, [], ◌∷◌}
use mathlib.Core.Path.{◌≡◌, refl}
use lib.Dec.{eqb}
use Rattle.paper.specs.Told.{Told}
use Rattle.slices.specs.Lists.{all, sum}
use Rattle.offer.specs.Check.{good, check_of}
use Rattle.offer.specs.Examples.{element, elements_a}
use Rattle.offer.specs.declared.Element.{Element}

-- a table, the number that it is told, and its blocks
record Row : Type 0 where
  count : ℕ
  elements : List Element
  limit : ℕ
  number : ℕ
  blocks : ℕ

abbrev row : ℕ → List Element → ℕ → ℕ → ℕ → Row
row c es l n b = record { count = c; elements = es; limit = l; number = n; blocks = b }

abbrev rows : List Row
rows =
    row 4 elements_a 2 0 3000
    -- the limit 0 to 128
    ∷ row 4 elements_a 0 0 3000
    ∷ row 4 elements_a 128 0 3000
    ∷ row 4 elements_a 129 8 0
    -- the count 1 to 128, tested itself
    ∷ row 1 elements_a 2 0 1000
    ∷ row 0 elements_a 2 8 0
    ∷ row 129 elements_a 2 8 0
    -- a blank slot has identifier 0
    ∷ row 5 elements_a 2 8 0
    -- identifiers equal, or descending
    ∷ row 2 (element 3 1 0 5 ∷ element 3 1 0 5 ∷ []) 0 8 0
    ∷ row 2 (element 4 1 0 5 ∷ element 3 1 0 5 ∷ []) 0 8 0
    ∷ row 2 (element 3 1 0 5 ∷ element 4 1 0 5 ∷ []) 0 0 10
    ∷ row 1 (element 0xFFFF_FFFF 1 0 5 ∷ []) 0 0 5
    -- health 00h to CFh
    ∷ row 1 (element 1 1 0xCF 5 ∷ []) 0 0 5
    ∷ row 1 (element 1 1 0xD0 5 ∷ []) 0 8 0
    ∷ row 1 (element 1 1 0xFF 5 ∷ []) 0 8 0
    -- blocks of another type
    ∷ row 2 (element 1 1 0 5 ∷ element 2 0 0 0 ∷ []) 0 0 5
    ∷ row 2 (element 1 1 0 5 ∷ element 2 0 0 1 ∷ []) 0 8 0
    -- the sum between 2 and 2^48, past what 64 bits hold
    ∷ row 1 (element 1 1 0 1 ∷ []) 0 8 0
    ∷ row 1 (element 1 1 0 2 ∷ []) 0 0 2
    ∷ row 2 (element 1 1 0 1 ∷ element 2 1 0 (2 ^ 48 - 1) ∷ []) 0 0 (2 ^ 48)
    ∷ row 2 (element 1 1 0 1 ∷ element 2 1 0 (2 ^ 48) ∷ []) 0 8 0
    ∷ row 3 (element 1 1 0 2 ∷ element 2 1 0 (2 ^ 63) ∷ element 3 1 0 (2 ^ 63) ∷ []) 0 8 0
    ∷ []

abbrev answers : Row → Told (List ℕ) → Bool
answers r t = eqb t.number r.number && eqb (sum (λ (n : ℕ). n) t.state) r.blocks

tables_tried : all (λ (r : Row). answers r (check_of (record { elements = r.elements; count = r.count; limit = r.limit }))) rows ≡ true
unfolding good check_of
tables_tried = refl
