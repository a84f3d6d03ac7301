-- "hands out the descriptor itself, as part of whichever page it came from": the part as a place and a length, and the page's turn.
use Rattle.std.specs.Prelude.{ℕ, cond, ◌||◌, List, [], eqb, length, take, drop}
use Rattle.offences.specs.Checks.{base_of}
use Rattle.parts.specs.Parts.{descriptor_part}
use Rattle.spelt.specs.declared.Difference.{Difference}
use Rattle.spelt.specs.declared.Span.{Span}

abbrev pub no_span : Span
no_span = record { place = 0; length = 0; turn = 0 }

-- descriptor k of a page; no bytes where the page has no such descriptor
abbrev pub span_in : ℕ → List ℕ → ℕ → Span
span_in turn s k =
    let n = length (descriptor_part s k) in
    cond (eqb n 0) no_span (record { place = base_of k; length = n; turn = turn })

-- the newer's if it is in both; of a kind that is none, no bytes
unfoldable pub span_of : List ℕ → List ℕ → Difference → Span
span_of s t d =
    cond (eqb d.kind 1) (span_in 1 s d.at.older)
    (cond (eqb d.kind 2 || eqb d.kind 3) (span_in 2 t d.at.newer) no_span)

-- what a span takes of two pages
abbrev pub page_of : List ℕ → List ℕ → ℕ → List ℕ
page_of s t turn = cond (eqb turn 1) s (cond (eqb turn 2) t [])

abbrev pub bytes_of : List ℕ → List ℕ → Span → List ℕ
bytes_of s t x = take x.length (drop x.place (page_of s t x.turn))
