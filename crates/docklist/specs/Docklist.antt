-- Request 2026-03, "`./recorder list --scsi [FILE]`: the listing of SCSI data": its text, and the lent output buffer.
use Rattle.std.specs.Prelude.{ℕ, cond, List, ◌++◌, ltb, length}
use Rattle.entries.specs.Entries.{lines_below}
use Rattle.paper.specs.Output.{Output, written}
use Rattle.paper.specs.Told.{Told, tells}
use Rattle.query.specs.Queries.{plain}
use Rattle.rows.specs.Rows.{header_line, refused_line}
use Rattle.scsi.specs.Judgement.{Values, reading, place, read_of}
use Rattle.tally.specs.Tally.{tally_line}
use Rattle.words.specs.declared.Order.TheVariants.{Big}

-- ## The text

-- "(request: filter 0, type 0, start 0)"; "input above 65,536 bytes is refused at 65536"
abbrev pub judged : List ℕ → Told Values
judged s = cond (ltb 65536 (length s)) (tells 9 (place 65536)) (read_of Big s plain)

-- "the same lines; after them `cut K of N` .. or `torn K of N`"; or "`refused 9 at PLACE`"
abbrev pub text_for : List ℕ → Values → List ℕ
text_for s (reading h whole torn) = header_line h ++ lines_below Big s whole ++ tally_line whole h.number torn
text_for s (place p) = refused_line p

unfoldable pub listing_of : List ℕ → List ℕ
listing_of s = text_for s (judged s).state

-- ## The lent buffer

abbrev pub listed : List ℕ → List ℕ → Told Output
listed s out = written (listing_of s) out
