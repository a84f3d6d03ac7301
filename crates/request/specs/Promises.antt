-- What holds of every request and of every judgement. Each is a statement; proofs/ has the proof under the same name in lower case.
use Rattle.std.specs.Prelude.{ℕ, false, ◌≡◌}
use Rattle.paper.specs.Answers.{number_of}
use Rattle.paper.specs.Registers.{low48}
use Rattle.paper.specs.declared.Answer.{Answer}
use Rattle.paper.specs.declared.Security.{Security}
use Rattle.request.specs.Requests.{sets_reserved, FieldsAlone, SameFields, status_number}
use Rattle.request.specs.declared.Request.{Request}

-- no reserved bit is set exactly if FEATURE and LBA 47:0 hold the fields and nothing else
abbrev pub UnsetExactly : Type 0
UnsetExactly = (q : Request) → (sets_reserved q ≡ false → FieldsAlone q) × (FieldsAlone q → sets_reserved q ≡ false)

-- "if more bits of LBA are handed over, those above bit 47 are ignored": no field has them, and they are not reserved
abbrev pub HighBitsAlike : Type 0
HighBitsAlike = (q : Request) → SameFields q (record { feature = q.feature; count = q.count; lba = low48 q.lba })

-- no second judgement fits
abbrev pub OneJudgement : Type 0
OneJudgement = (s : Security) (q : Request) (room : ℕ) (a b : Answer) → number_of a ≡ status_number s q room → number_of b ≡ status_number s q room → a ≡ b
