-- What a call tells on paper. A promise equates what the code answers, put so, with a definition: so one answer fits.
use Rattle.std.specs.Prelude.{ℕ}
use Rattle.paper.specs.Answers.{number_of}
use Rattle.paper.specs.declared.Answer.{Answer}

-- a number of document 01's table, and what is lent or handed back: a device, a buffer, values
pub record Told (X : Type 0) : Type 0 where
  pub number : ℕ
  pub state : X

abbrev pub tells : {X : Type 0} → ℕ → X → Told X
tells n x = record { number = n; state = x }

-- an answer of the code, and what it left
abbrev pub said : {X : Type 0} → Answer → X → Told X
said a x = tells (number_of a) x
