-- What the search for an identifier sees of a table and its cells.
use Rattle.std.specs.Prelude.{ℕ, Bool, true, false, Option, None, Some, Result, Ok, Err}
use Rattle.std.specs.Option.{option_map}
use Rattle.paper.specs.Elements.{removed_health}
use Rattle.paper.specs.declared.ElementId.{ElementId}
use Rattle.table.specs.Search.{sought, sight}
use Rattle.table.specs.declared.Sight.{Sight}
use Rattle.table.specs.declared.Table.{Table}
use Rattle.cells.specs.Cells.{health_in}
use Rattle.cells.specs.declared.Cells.{Cells}
use Rattle.cells.specs.declared.Seen.{Seen}

-- the search in the table as built gives the part and the place; the health is the cell of that place
abbrev pub seen_at : Cells → Sight → Seen
seen_at c s = record { part = s.part; place = s.place; health = health_in c s.place }

-- where it stops, at a hit and at a miss
abbrev pub seen : Cells → Result Sight Sight → Result Seen Seen
seen c (Ok s) = Ok (seen_at c s)
seen c (Err s) = Err (seen_at c s)

unfoldable pub look_in : Table → Cells → ElementId → Result Seen Seen
look_in t c id = seen c (sought id.0 t)

-- at a hit alone
unfoldable pub see_in : Table → Cells → ElementId → Option Seen
see_in t c id = option_map (λ s. record { part = s.part; place = s.place; health = health_in c s.place }) (sight id.0 t)

-- whether an element is there
abbrev pub is_there : Option Seen → Bool
is_there None = false
is_there (Some s) = true

-- there, and at FFh
abbrev pub gone : Option Seen → Bool
gone None = false
gone (Some s) = removed_health s.health

-- its place, and its blocks: asked of one that is there, and 0 of another
abbrev pub place_of : Option Seen → ℕ
place_of None = 0
place_of (Some s) = s.place

abbrev pub blocks_of : Option Seen → ℕ
blocks_of None = 0
blocks_of (Some s) = s.part.blocks
