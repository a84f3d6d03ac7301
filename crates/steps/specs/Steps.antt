-- Document 01: "Work steps", "Winding up" and "Grade".
use Rattle.std.specs.Prelude.{ℕ, cond, not, ◌||◌, Option, None, Some}
use Rattle.paper.specs.Elements.{removed_health, graded_health}
use Rattle.paper.specs.declared.ElementId.{ElementId}
use Rattle.paper.specs.declared.Lba.{Lba}
use Rattle.table.specs.declared.Table.{Table}
use Rattle.cells.specs.Rulings.{Ruled, quiet, goes}
use Rattle.cells.specs.Sights.{see_in, gone}
use Rattle.cells.specs.declared.Cells.{Cells}
use Rattle.cells.specs.declared.Mark.TheVariants.{Clear, Set}
use Rattle.cells.specs.declared.Note.TheVariants.{Empty, Full}
use Rattle.cells.specs.declared.Note.{Note}
use Rattle.cells.specs.declared.Position.TheVariants.{Work1, Work2, Work3, Work4, Work5, Wind1, Wind2, Wind3, Wind4}
use Rattle.cells.specs.declared.Position.{Position}
use Rattle.cells.specs.declared.Removal.{Removal}
use Rattle.cells.specs.declared.Seen.{Seen}
use Rattle.cells.specs.declared.Store.TheVariants.{Nothing, NativeTo, AccessibleTo, Marked, Graded, FailedTo, NoteEmptied}
use Rattle.cells.specs.declared.Store.{Store}

-- "both to the new value if the noted element is FFh, else the old"; one that is not there is not
abbrev pub wound_to : Option Seen → Removal → Lba
wound_to s w = cond (gone s) w.new w.old

-- "health := FFh, the marking store"; no such element, no store
abbrev pub marking : Option Seen → Store
marking None = Nothing
marking (Some s) = Marked s.place

-- "(1) native max := new; (2) accessible max := new; (3) health := FFh, the marking store; (4) failed mark cleared; (5) note emptied"
-- "(1) native, (2) accessible ..; (3) failed mark set; (4) note emptied"
abbrev pub store_from : Option Seen → Removal → Position → Store
store_from s w Work1 = NativeTo w.new
store_from s w Work2 = AccessibleTo w.new
store_from s w Work3 = marking s
store_from s w Work4 = FailedTo Clear
store_from s w Work5 = NoteEmptied
store_from s w Wind1 = NativeTo (wound_to s w)
store_from s w Wind2 = AccessibleTo (wound_to s w)
store_from s w Wind3 = FailedTo Set
store_from s w Wind4 = NoteEmptied

-- the step after; the last ones lead to the first work step, where the position rests while the note is empty
abbrev pub next_of : Position → Position
next_of Work1 = Work2
next_of Work2 = Work3
next_of Work3 = Work4
next_of Work4 = Work5
next_of Work5 = Work1
next_of Wind1 = Wind2
next_of Wind2 = Wind3
next_of Wind3 = Wind4
next_of Wind4 = Work1

-- "A work step .. with an empty note answers 10"
abbrev pub rule_step : Table → Cells → Position → Note → Ruled
rule_step t c p Empty = quiet 10 p
rule_step t c p (Full w) = goes (store_from (see_in t c w.element) w p) (next_of p)

-- "A media error or a power cut while the note is full answers 0, makes no store and sets the position to the first winding-up step";
-- with an empty note it answers `idle`: "media error .. 10; a power cut then answers 0 and changes nothing"
abbrev pub rule_stop : Position → ℕ → Note → Ruled
rule_stop p idle Empty = quiet idle p
rule_stop p idle (Full w) = goes Nothing Wind1

-- "Unknown identifier, element at FFh, or a value above CFh: 11."
unfoldable pub grade_seen : Position → ℕ → Option Seen → Ruled
grade_seen p h None = quiet 11 p
grade_seen p h (Some s) = cond (removed_health s.health || not (graded_health h)) (quiet 11 p) (goes (Graded s.place h) p)

abbrev pub rule_grade : Table → Cells → Position → ElementId → ℕ → Ruled
rule_grade t c p id h = grade_seen p h (see_in t c id)
