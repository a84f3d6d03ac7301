-- What holds of every answer, of bytes in a lent buffer, and of table 12. Each is a statement; proofs/ has the proof under the same name in lower case.
use Rattle.std.specs.Prelude.{ℕ, false, List, [], Result, ◌≡◌, get_or}
use Rattle.paper.specs.Answers.{number_of}
use Rattle.paper.specs.Output.{Output, output, wrote, written}
use Rattle.paper.specs.Table12.{aborts, grid, row_of, column_of}
use Rattle.paper.specs.Told.{Told, said}
use Rattle.paper.specs.declared.Answer.{Answer}
use Rattle.paper.specs.declared.Command.{Command}
use Rattle.paper.specs.declared.Security.{Security}
use Rattle.paper.specs.declared.Unwritten.{Unwritten}

-- no two answers have one number
abbrev pub NumberInjective : Type 0
NumberInjective = (a b : Answer) → number_of a ≡ number_of b → a ≡ b

-- "that no second answer fits", and nothing else lent or handed back: of every call whose promise equates `said` with a definition
abbrev pub NoSecondAnswer : Type 1
NoSecondAnswer = (X : Type 0) (t : Told X) (a b : Answer) (x y : X) → said a x ≡ t → said b y ≡ t → (a ≡ b) × (x ≡ y)

-- nor, of a call that writes into a lent buffer, a second number of bytes, a second reason why there are none, or a second buffer
abbrev pub OneOutput : Type 0
OneOutput = (t : Told Output) (a b : Result ℕ Unwritten) (x y : List ℕ) → wrote a x ≡ t → wrote b y ≡ t → (a ≡ b) × (x ≡ y)

-- a refusal writes nothing
abbrev pub RefusalWritesNothing : Type 0
RefusalWritesNothing = (bytes out : List ℕ) → ((written bytes out).number ≡ 0 → ⊥) → (written bytes out).state ≡ output 0 out

-- "A two by three array of arrays: the command's row by the security state's column": true is what table 12 aborts
abbrev pub GridRight : Type 0
GridRight = (k : Command) (s : Security) → get_or (get_or grid (row_of k) []) (column_of s) false ≡ aborts k s
