-- What holds of every judgement. Each is a statement; proofs/ has the proof under the same name in lower case.
use Rattle.std.specs.Prelude.{ℕ, List, Result, ◌≡◌}
use Rattle.layout.specs.Bytes.{header_in}
use Rattle.layout.specs.declared.Header.{Header}
use Rattle.offences.specs.declared.Offence.{Offence}
use Rattle.paper.specs.Told.{tells}
use Rattle.request.specs.Requests.{SameFields}
use Rattle.request.specs.declared.Request.{Request}
use Rattle.words.specs.declared.Order.{Order}
use Rattle.reader.specs.Judgement.{header, place, heard, read_of, slot_of}
use Rattle.reader.specs.Layout.{Each, FirstBroken, page_rules}
use Rattle.reader.specs.Reserved.{LooksAlike}

-- no second answer fits
abbrev pub OneJudgement : Type 0
OneJudgement = (o : Order) (s : List ℕ) (q : Request) (a b : Result Header Offence) → heard a ≡ read_of o s q → heard b ≡ read_of o s q → a ≡ b

-- ## The layout theorem, in either byte order

-- a page is taken, with its header's numbers, exactly if it keeps each rule
abbrev pub TakesExactly : Type 0
TakesExactly =
    (o : Order) (s : List ℕ) (q : Request)
    → ((read_of o s q).number ≡ 0 → Each (page_rules o s q)) × (Each (page_rules o s q) → read_of o s q ≡ tells 0 (header (header_in o s)))

-- it is refused at a place exactly if the first rule that it breaks has that place
abbrev pub RefusesExactly : Type 0
RefusesExactly =
    (o : Order) (s : List ℕ) (q : Request) (p : ℕ)
    → (read_of o s q ≡ tells 9 (place p) → FirstBroken (page_rules o s q) p) × (FirstBroken (page_rules o s q) p → read_of o s q ≡ tells 9 (place p))

-- ## What of a request is looked at

-- its fields, and whether it sets a reserved bit: as the answer to two that are alike in these a page is read alike
abbrev pub IgnoredUnread : Type 0
IgnoredUnread = (o : Order) (s : List ℕ) (p q : Request) → SameFields p q → read_of o s p ≡ read_of o s q

-- ## "Reserved bytes are not looked at"

-- of pages that look alike the reader says the same, for every request, and holds the same descriptor at every number
abbrev pub ReservedUnseen : Type 0
ReservedUnseen =
    (o : Order) (s t : List ℕ) → LooksAlike o s t
    → ((q : Request) → read_of o s q ≡ read_of o t q) × ((k : ℕ) → slot_of o s k ≡ slot_of o t k)
