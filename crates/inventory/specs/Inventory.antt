-- docs/BENCH.md, `cells`: a line of the cells, then one for each element in order.
use Rattle.std.specs.Prelude.{ℕ, zero, suc, min, List, [], ◌++◌, get_or}
use Rattle.cells.specs.Cells.{is_set}
use Rattle.cells.specs.declared.Cells.{Cells}
use Rattle.cells.specs.declared.Note.TheVariants.{Empty, Full}
use Rattle.cells.specs.declared.Note.{Note}
use Rattle.cells.specs.declared.Position.TheVariants.{Work1, Work2, Work3, Work4, Work5, Wind1, Wind2, Wind3, Wind4}
use Rattle.cells.specs.declared.Position.{Position}
use Rattle.cells.specs.declared.Removal.{Removal}
use Rattle.device.specs.declared.Device.{Device}
use Rattle.paper.specs.Flags.{is_on}
use Rattle.slices.specs.Lists.{one}
use Rattle.table.specs.Elements.{blank_part}
use Rattle.table.specs.declared.Part.{Part}
use Rattle.text.specs.Digits.{digits, decimal_of}
use Rattle.text.specs.Text.{ascii}
use Rattle.writing.specs.Writing.{number_line}

-- ## The cells

-- "`note ID OLD NEW` if full, ID 8 upper hex digits", else `-`
abbrev pub removal_text : Removal → List ℕ
removal_text w = digits 16 8 w.element.0 ++ (ascii " " ++ decimal_of w.old.0) ++ (ascii " " ++ decimal_of w.new.0)

abbrev pub note_text : Note → List ℕ
note_text Empty = ascii "-"
note_text (Full w) = removal_text w

-- "`work1` to `work5`, `wind1` to `wind4`, the step that comes next"
abbrev pub position_text : Position → List ℕ
position_text Work1 = ascii "work1"
position_text Work2 = ascii "work2"
position_text Work3 = ascii "work3"
position_text Work4 = ascii "work4"
position_text Work5 = ascii "work5"
position_text Wind1 = ascii "wind1"
position_text Wind2 = ascii "wind2"
position_text Wind3 = ascii "wind3"
position_text Wind4 = ascii "wind4"

-- "limit L native N accessible N failed F note - position P"
abbrev pub cells_line : ℕ → Cells → Position → List ℕ
cells_line limit c p =
    (ascii "limit " ++ decimal_of limit)
    ++ (ascii " native " ++ decimal_of c.native.0)
    ++ (ascii " accessible " ++ decimal_of c.accessible.0)
    ++ (ascii " failed " ++ decimal_of (one (is_set c.failed)))
    ++ (ascii " note " ++ note_text c.note)
    ++ (ascii " position " ++ position_text p ++ ascii "\n")

-- ## The elements

-- "ID TYPE HEALTH BLOCKS FLAG"
abbrev pub element_line : Part → ℕ → List ℕ
element_line p health =
    digits 16 8 p.id.0 ++ ascii " " ++ digits 16 2 p.kind ++ ascii " " ++ digits 16 2 health
    ++ (ascii " " ++ decimal_of p.blocks)
    ++ number_line (ascii " ") (one (is_on p.unreported))

-- the lines of the first n places
abbrev pub elements_below : List Part → List ℕ → ℕ → List ℕ
elements_below ps healths zero = []
elements_below ps healths (suc n) = elements_below ps healths n ++ element_line (get_or ps n blank_part) (get_or healths n 0)

-- the elements that count are the first `count`, or all 128 where the count is larger
unfoldable pub cells_of : Device → List ℕ
cells_of d =
    cells_line d.table.limit d.cells d.position
    ++ elements_below d.table.parts d.cells.healths (min d.table.count 128)
