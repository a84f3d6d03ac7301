-- The elements of a table as built, their identifiers, and what is measured of them.
use Rattle.std.specs.Prelude.{ℕ, Bool, true, ◌&&◌, List, [], ◌∷◌, map, ltb, length, take, get_or}
use Rattle.paper.specs.Elements.{storage_type, removed_health}
use Rattle.slices.specs.Lists.{sum, one}
use Rattle.table.specs.declared.Part.{Part}
use Rattle.table.specs.declared.Table.{Table}

-- the elements that count: the first `count`, or all 128 where the count is larger
abbrev pub live : Table → List Part
live t = take t.count t.parts

-- what fills an unused place
abbrev pub blank_part : Part
blank_part = record { id = record { 0 = 0 }; kind = 0; unreported = 0; spare = 0; blocks = 0 }

-- ## Identifiers

abbrev pub part_ids : List Part → List ℕ
part_ids ps = map (λ (p : Part). p.id.0) ps

abbrev pub identifiers : Table → List ℕ
identifiers t = part_ids (live t)

-- how many elements there are, and the identifier at a place
abbrev pub size : Table → ℕ
size t = length (identifiers t)

abbrev pub identifier_at : Table → ℕ → ℕ
identifier_at t place = get_or (identifiers t) place 0

-- "identifiers 1 to FFFF_FFFFh, strictly ascending": each above the one before, the first above `low`; a u32 has no higher ones
abbrev pub ascending : ℕ → List ℕ → Bool
ascending low [] = true
ascending low (id ∷ ids) = ltb low id && ascending id ids

-- ## Measures

abbrev pub is_storage : Part → Bool
is_storage p = storage_type p.kind

-- how many healths are at FFh
abbrev pub removed_count : List ℕ → ℕ
removed_count hs = sum (λ (h : ℕ). one (removed_health h)) hs
