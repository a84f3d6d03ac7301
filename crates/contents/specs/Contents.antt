-- docs/BENCH.md, `read`: what the reader makes of the kept page.
use Rattle.std.specs.Prelude.{ℕ, zero, suc, List, [], ◌++◌, take, Option, None, Some}
use Rattle.layout.specs.declared.Descriptor.{Descriptor}
use Rattle.layout.specs.declared.Header.{Header}
use Rattle.reader.specs.Judgement.{Values, header, place, read_of, slot_of}
use Rattle.request.specs.declared.Request.{Request}
use Rattle.rows.specs.Rows.{values_of, header_line}
use Rattle.slices.specs.Lists.{one}
use Rattle.text.specs.Digits.{digits, decimal_of}
use Rattle.text.specs.Text.{ascii}
use Rattle.words.specs.declared.Order.TheVariants.{Little}
use Rattle.writing.specs.Writing.{number_line}

-- "a line `ID BIT TYPE HEALTH CAPACITY` for each descriptor (BIT 0 or 1; CAPACITY decimal, `-` for all ones)"
abbrev pub held_line : Descriptor → List ℕ
held_line d = digits 16 8 d.id.0 ++ ascii " " ++ decimal_of (one d.restorable) ++ ascii " " ++ values_of d ++ ascii "\n"

-- what stands at a number
abbrev pub slot_line : Option Descriptor → List ℕ
slot_line None = []
slot_line (Some d) = held_line d

-- the lines of the first n numbers
abbrev pub slots_below : (ℕ → Option Descriptor) → ℕ → List ℕ
slots_below slots zero = []
slots_below slots (suc n) = slots_below slots n ++ slot_line (slots n)

-- "a line `0` (without a sense), then a line `number N ..`, then a line .. for each descriptor"
abbrev pub list_text : Header → (ℕ → Option Descriptor) → ℕ → List ℕ
list_text h slots n = ascii "0\n" ++ header_line h ++ slots_below slots n

-- "`9 at PLACE` (decimal)"
abbrev pub refused_line : ℕ → List ℕ
refused_line p = number_line (ascii "9 at ") p

abbrev pub reading_for : List ℕ → Values → List ℕ
reading_for s (header h) = list_text h (slot_of Little s) h.returned
reading_for s (place p) = refused_line p

-- a kept page has at most 65,536 bytes
unfoldable pub reading_of : List ℕ → Request → List ℕ
reading_of page q = reading_for (take 65536 page) (read_of Little (take 65536 page) q).state
