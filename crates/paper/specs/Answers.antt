-- Document 01, "What a call says": the number of each answer, and the sense of each number.
use Rattle.std.specs.Prelude.{ℕ, cond, List, [], ◌∷◌, Option, Some, None, eqb}
use Rattle.paper.specs.declared.Answer.TheVariants.{Done, SecurityLocked, InProgress, Failed, InvalidField, BeyondMax, UnknownCommand, SmallBuffer, TableRefused, NoRemoval, GradeRefused}
use Rattle.paper.specs.declared.Answer.{Answer}
use Rattle.paper.specs.declared.Sense.{Sense}

-- "No." and "Meaning"
abbrev pub number_of : Answer → ℕ
number_of Done = 0
number_of SecurityLocked = 1
number_of InProgress = 2
number_of Failed = 3
number_of InvalidField = 4
number_of BeyondMax = 5
number_of UnknownCommand = 6
number_of SmallBuffer = 7
number_of TableRefused = 8
number_of NoRemoval = 10
number_of GradeRefused = 11

-- a number and its "Sense key/ASC/ASCQ"
pub record Row : Type 0 where
  pub number : ℕ
  pub sense : Option Sense

abbrev pub row : ℕ → ℕ → ℕ → ℕ → Row
row n key asc ascq = record { number = n; sense = Some (record { key = key; asc = asc; ascq = ascq }) }

-- the rows with codes; every other number has none
abbrev pub rows : List Row
rows =
    row 0 0 0x00 0x00
    ∷ row 1 0 0x00 0x00
    ∷ row 2 2 0x04 0x24
    ∷ row 3 3 0x31 0x04
    ∷ row 4 5 0x24 0x00
    ∷ row 5 5 0x21 0x00
    ∷ row 6 5 0x20 0x00
    ∷ []

abbrev pub sense_in : List Row → ℕ → Option Sense
sense_in [] n = None
sense_in (r ∷ rs) n = cond (eqb n r.number) r.sense (sense_in rs n)

-- the sense of a number
abbrev pub sense_of : ℕ → Option Sense
sense_of n = sense_in rows n
