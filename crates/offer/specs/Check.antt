-- Document 01, "Table and cells": which tables are good. "Any other table is refused (8)."
use Rattle.std.specs.Prelude.{ℕ, ◌^◌, Bool, cond, ◌&&◌, ◌||◌, Option, None, Some, List, [], ◌∷◌, eqb, leb}
use Rattle.paper.specs.Elements.{storage_type, graded_health}
use Rattle.paper.specs.Told.{Told, tells}
use Rattle.slices.specs.Lists.{all}
use Rattle.table.specs.Elements.{ascending}
use Rattle.offer.specs.Elements.{offered, element_ids, block_sum}
use Rattle.offer.specs.declared.Element.{Element}
use Rattle.offer.specs.declared.Offer.{Offer}

-- "1 to 128 elements"; "A removal limit, 0 to 128"
abbrev pub sized : ℕ → ℕ → Bool
sized count limit = leb 1 count && leb count 128 && leb limit 128

-- "A type other than 01h has block count 0"
abbrev pub shaped : Element → Bool
shaped e = storage_type e.kind || eqb e.blocks 0

-- "a health 00h to CFh"
abbrev pub healthy : Element → Bool
healthy e = graded_health e.health

-- "The blocks sum to between 2 and 2^48"
abbrev pub summed : ℕ → Bool
summed total = leb 2 total && leb total (2 ^ 48)

-- all but the healths; the count is tested itself, since a list of 129 records has no more than 128 in the array
abbrev pub structured : ℕ → List Element → ℕ → Bool
structured count es limit = sized count limit && (ascending 0 (element_ids es) && (all shaped es && summed (block_sum es)))

-- the tables that are not refused
unfoldable pub good : ℕ → List Element → ℕ → Bool
good count es limit = structured count es limit && all healthy es

-- what the check tells: 0 and the blocks of all, or 8
unfoldable pub check_of : Offer → Told (List ℕ)
check_of o = cond (good o.count (offered o) o.limit) (tells 0 (block_sum (offered o) ∷ [])) (tells 8 [])

-- the number and values of each answer: 8, or 0 and the blocks of all
abbrev pub verdict : Option ℕ → Told (List ℕ)
verdict None = tells 8 []
verdict (Some n) = tells 0 (n ∷ [])
