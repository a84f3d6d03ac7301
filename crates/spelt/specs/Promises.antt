-- What holds of answers in numbers. Each is a statement; proofs/ has the proof under the same name in lower case.
use Rattle.std.specs.Prelude.{ℕ, ◌+◌, ◌≤◌, List, ◌≡◌, length}
use Rattle.compare.specs.declared.Cursor.{Cursor}
use Rattle.compare.specs.declared.Line.{Line}
use Rattle.parts.specs.Parts.{part_of}
use Rattle.spelt.specs.Spans.{span_of, page_of, bytes_of}
use Rattle.spelt.specs.Spelt.{difference_at}
use Rattle.spelt.specs.declared.Difference.{Difference}

-- of each difference the span takes the very bytes that `parts::part` hands out
abbrev pub SpansPart : Type 0
SpansPart = (s t : List ℕ) (line : Line) (next : Cursor) → bytes_of s t (span_of s t (difference_at line next)) ≡ part_of s t line

-- and whatever the difference says, a span lies inside its page
abbrev pub SpanInside : Type 0
SpanInside =
    (s t : List ℕ) (d : Difference) → let x = span_of s t d in x.place + x.length ≤ length (page_of s t x.turn)
