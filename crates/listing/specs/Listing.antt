-- Document 01, "The reader", last paragraph: the listing's text, and the lent output buffer.
use Rattle.std.specs.Prelude.{ℕ, cond, List, ◌++◌, ltb, length}
use Rattle.entries.specs.Entries.{lines_below}
use Rattle.paper.specs.Output.{Output, written}
use Rattle.paper.specs.Told.{Told, tells}
use Rattle.reader.specs.Judgement.{Values, header, place, read_of}
use Rattle.request.specs.Requests.{request_of}
use Rattle.rows.specs.Rows.{header_line, refused_line}
use Rattle.words.specs.declared.Order.TheVariants.{Little}

-- ## The text

-- "at most 65,536 bytes ..; longer input is refused at 65536"
abbrev pub judged : List ℕ → Told Values
judged s = cond (ltb 65536 (length s)) (tells 9 (place 65536)) (read_of Little s (request_of s))

abbrev pub first_line : Values → List ℕ
first_line (header h) = header_line h
first_line (place p) = refused_line p

abbrev pub line_count : Values → ℕ
line_count (header h) = h.returned
line_count (place p) = 0

-- "It prints one header and a line for each descriptor .. or `refused 9 at ` and the place."
unfoldable pub listing_of : List ℕ → List ℕ
listing_of s = first_line (judged s).state ++ lines_below Little s (line_count (judged s).state)

-- ## The lent buffer

abbrev pub listed : List ℕ → List ℕ → Told Output
listed s out = written (listing_of s) out
