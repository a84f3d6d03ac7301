-- docs/BENCH.md: what the bench says to a line, as text.
use Rattle.std.specs.Prelude.{ℕ, cond, List, [], ◌++◌, Option, Some, None, eqb, take}
use Rattle.acts.specs.Acts.{Saying, nothing, not_acall, no_device, outside, long_now, answered, commanded, cells, reads, walks, reads_scsi, docked}
use Rattle.contents.specs.Contents.{refused_line, reading_of}
use Rattle.contents.specs.DockContents.{scsi_reading_of}
use Rattle.device.specs.declared.Device.{Device}
use Rattle.docking.specs.Dock.{Kind, scsi, toscsi, toata, Answered}
use Rattle.dump.specs.Dump.{page_text, data_text, touched_text}
use Rattle.inventory.specs.Inventory.{cells_of}
use Rattle.moves.specs.Moves.{next_text}
use Rattle.paper.specs.Answers.{sense_of}
use Rattle.paper.specs.declared.Sense.{Sense}
use Rattle.text.specs.Digits.{digits, decimal_of}
use Rattle.text.specs.Text.{ascii}
use Rattle.writing.specs.Writing.{number_line}

-- ## An answer

-- "followed for 0 to 6 by a space and the sense `K/AA/QQ` (1, 2 and 2 upper hex digits)"
abbrev pub codes_text : Sense → List ℕ
codes_text s = ascii " " ++ digits 16 1 s.key ++ ascii "/" ++ digits 16 2 s.asc ++ ascii "/" ++ digits 16 2 s.ascq

abbrev pub sense_text : Option Sense → List ℕ
sense_text None = []
sense_text (Some s) = codes_text s

-- "An answer is the number in decimal"
unfoldable pub answer_line : ℕ → List ℕ
answer_line n = decimal_of n ++ sense_text (sense_of n) ++ ascii "\n"

-- the front call's, over a lent buffer of `room` bytes, of which it wrote the first `count`: "the page .. follows", then `touched`
unfoldable pub lent_text : ℕ → ℕ → ℕ → List ℕ → List ℕ
lent_text n room count lent = answer_line n ++ page_text (take count lent) ++ touched_text (take room lent) count

-- ## The calls for a SCSI host

-- of a conversion: "`9 at PLACE`, `7`, or `0` (without a sense)"
abbrev pub bare_line : ℕ → ℕ → List ℕ
bare_line n place = cond (eqb n 9) (refused_line place) (decimal_of n ++ ascii "\n")

-- of `scsi` it is an answer as of `command`, with its sense
abbrev pub first_line : Kind → ℕ → ℕ → List ℕ
first_line scsi n place = answer_line n
first_line toscsi n place = bare_line n place
first_line toata n place = bare_line n place

-- "a line `bytes N` (decimal) follows, and a line of 64 upper hex digits for each 32 bytes", or "the page's rows as 12h has them"
abbrev pub shown_as : Kind → List ℕ → List ℕ
shown_as scsi bytes = data_text bytes
shown_as toscsi bytes = data_text bytes
shown_as toata bytes = page_text bytes

-- after 0
abbrev pub bytes_text : Kind → ℕ → List ℕ → List ℕ
bytes_text k n bytes = cond (eqb n 0) (shown_as k bytes) []

unfoldable pub dock_text : Answered → List ℕ → List ℕ
dock_text a lent =
    first_line a.kind a.number a.place ++ bytes_text a.kind a.number (take a.count lent) ++ touched_text (take a.room lent) a.count

-- ## A reply

-- of the device, the kept page and the lent buffer after the call
abbrev pub text_of : Saying → Device → List ℕ → List ℕ → List ℕ
text_of nothing d page lent = []
text_of not_acall d page lent = ascii "not a call\n"
text_of no_device d page lent = ascii "no device\n"
text_of outside d page lent = ascii "outside\n"
text_of (long_now n) d page lent = number_line (ascii "length ") n
text_of (answered n) d page lent = answer_line n
text_of (commanded n room count) d page lent = lent_text n room count lent
text_of cells d page lent = cells_of d
text_of (reads q) d page lent = reading_of page q
text_of (walks q) d page lent = next_text page q
text_of (reads_scsi q) d page lent = scsi_reading_of page q
text_of (docked a) d page lent = dock_text a lent
