-- Bytes in a lent buffer, and what a call says that writes them.
use Rattle.std.specs.Prelude.{ℕ, cond, List, ◌++◌, Result, Ok, Err, ltb, length, drop}
use Rattle.paper.specs.Answers.{number_of}
use Rattle.paper.specs.Told.{Told, tells}
use Rattle.paper.specs.declared.Answer.TheVariants as answers
use Rattle.paper.specs.declared.Answer.{Answer}
use Rattle.paper.specs.declared.Unwritten.TheVariants.{InvalidField, SmallBuffer}
use Rattle.paper.specs.declared.Unwritten.{Unwritten}
use Rattle.paper.specs.declared.Written.{Written}

-- how many bytes were written, and the whole buffer
pub record Output : Type 0 where
  pub count : ℕ
  pub buffer : List ℕ

abbrev pub output : ℕ → List ℕ → Output
output n out = record { count = n; buffer = out }

-- what a call answers that wrote nothing
abbrev pub answer_for : Unwritten → Answer
answer_for InvalidField = answers.InvalidField
answer_for SmallBuffer = answers.SmallBuffer

-- the answer and the count of what the code wrote, or of why it wrote nothing
abbrev pub written_of : Result ℕ Unwritten → Written
written_of (Ok n) = record { answer = answers.Done; count = n }
written_of (Err why) = record { answer = answer_for why; count = 0 }

-- how many bytes the code wrote, or why none, and what it left
abbrev pub wrote : Result ℕ Unwritten → List ℕ → Told Output
wrote (Ok n) out = tells 0 (output n out)
wrote (Err why) out = tells (number_of (answer_for why)) (output 0 out)

-- some bytes at its front; a buffer that is too short gets 7 and stays untouched
abbrev pub written : List ℕ → List ℕ → Told Output
written bytes out =
    cond (ltb (length out) (length bytes)) (tells 7 (output 0 out)) (tells 0 (output (length bytes) (bytes ++ drop (length bytes) out)))
