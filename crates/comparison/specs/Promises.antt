-- What holds of every text. Each is a statement; proofs/ has the proof under the same name in lower case.
use Rattle.std.specs.Prelude.{ℕ, ◌≤◌, List, ◌≡◌, length}
use Rattle.compare.specs.Differences.{differences_of}
use Rattle.paper.specs.Output.{written}
use Rattle.reach.specs.Opening.{judged}
use Rattle.reader.specs.Reserved.{LooksAlike}
use Rattle.words.specs.declared.Order.TheVariants.{Little}
use Rattle.comparison.specs.Comparison.{comparison_of, status_for, status_of}

-- No second answer fits a text, and a refusal writes nothing: `paper`'s `OneOutput` and `RefusalWritesNothing`, of any bytes.

-- room for every text: at most 4,094 lines of 38 bytes, or half as many of 68, and a last one of 24
abbrev pub Enough : Type 0
Enough = (s t out : List ℕ) → 160000 ≤ length out → (written (comparison_of s t) out).number ≡ 0

-- the text tells the exit status
abbrev pub TellsStatus : Type 0
TellsStatus = (s t : List ℕ) → status_of (comparison_of s t) ≡ status_for (judged s t).state (differences_of s t)

-- "Reserved bytes are not looked at": of pages that look alike the text is one; s and t look like s' and t'
abbrev pub ReservedUnwritten : Type 0
ReservedUnwritten = (s s' t t' : List ℕ) → LooksAlike Little s s' → LooksAlike Little t t' → comparison_of s t ≡ comparison_of s' t'
