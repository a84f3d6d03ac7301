-- The text of a comparison, as docs/changes/2026-01 asks for it: "a line for each difference", and a last line. The older page is s, the
-- newer t.
use Rattle.std.specs.Prelude.{ℕ, cond, List, [], ◌∷◌, ◌++◌, eqb}
use Rattle.changes.specs.Changes.{line_of}
use Rattle.compare.specs.Differences.{differences_of}
use Rattle.compare.specs.declared.Line.{Line}
use Rattle.ending.specs.Ending.{last_line}
use Rattle.reach.specs.Opening.{Values, bound, turn, judged}
use Rattle.slices.specs.Lists.{flat}

-- ## The whole text

abbrev pub lines_of : List ℕ → List ℕ → List Line → List ℕ
lines_of s t ls = flat (line_of s t) ls

abbrev pub differences_for : List ℕ → List ℕ → Values → List Line
differences_for s t (bound b) = differences_of s t
differences_for s t (turn w) = []

unfoldable pub comparison_of : List ℕ → List ℕ → List ℕ
comparison_of s t = lines_of s t (differences_for s t (judged s t).state) ++ last_line (judged s t).state

-- ## The exit status

-- "exit status 0 where they agree, 1 where they differ, 2 for a refusal"
abbrev pub status_for : Values → List Line → ℕ
status_for (turn w) ls = 2
status_for (bound b) [] = 0
status_for (bound b) (l ∷ ls) = 1

-- read off a text: `refused ..`, else nothing or `compared ..`, else a difference's sign
abbrev pub status_of : List ℕ → ℕ
status_of [] = 0
status_of (b ∷ bs) = cond (eqb b 0x72) 2 (cond (eqb b 0x63) 0 1)
