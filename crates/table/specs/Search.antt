-- The search by identifier. It stops at the first identifier that is not below the one sought; on an ascending list it finds exactly the
-- members (specs/Promises: `HitsThere`, `HitsMember`).
use Rattle.std.specs.Prelude.{ℕ, suc, Bool, false, cond, Option, None, Some, Result, Ok, Err, List, [], ◌∷◌, eqb, ltb, get_or}
use Rattle.table.specs.Elements.{live, blank_part, part_ids}
use Rattle.table.specs.declared.Part.{Part}
use Rattle.table.specs.declared.Sight.{Sight}
use Rattle.table.specs.declared.Table.{Table}

-- the first place at or above an identifier: how many stand before it
abbrev pub place : ℕ → List ℕ → ℕ
place id [] = 0
place id (x ∷ xs) = cond (ltb x id) (suc (place id xs)) 0

-- a hit if the identifier there is equal
abbrev pub hits : ℕ → List ℕ → Bool
hits id [] = false
hits id (x ∷ xs) = cond (ltb x id) (hits id xs) (eqb x id)

-- in a table: where the search stops, the part there (a blank one past the end), and the place
abbrev pub stop_in : ℕ → List Part → Sight
stop_in id ps = record { part = get_or ps (place id (part_ids ps)) blank_part; place = place id (part_ids ps) }

-- told as a hit or as a miss
unfoldable pub sought_in : ℕ → List Part → Result Sight Sight
sought_in id ps = cond (hits id (part_ids ps)) (Ok (stop_in id ps)) (Err (stop_in id ps))

abbrev pub sought : ℕ → Table → Result Sight Sight
sought id t = sought_in id (live t)

-- at a hit, the part where the search stops, and its place
unfoldable pub sight_in : ℕ → List Part → Option Sight
sight_in id ps = cond (hits id (part_ids ps)) (Some (record { part = get_or ps (place id (part_ids ps)) blank_part; place = place id (part_ids ps) })) None

abbrev pub sight : ℕ → Table → Option Sight
sight id t = sight_in id (live t)
