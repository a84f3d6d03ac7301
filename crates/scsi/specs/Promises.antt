-- What holds of every judgement. Each is a statement; proofs/ has the proof under the same name in lower case.
use Rattle.std.specs.Prelude.{ℕ, ◌+◌, ◌≤◌, ◌<◌, true, List, Result, ◌≡◌, length}
use Rattle.layout.specs.Bytes.{header_in}
use Rattle.offences.specs.Checks.{base_of}
use Rattle.offences.specs.declared.Offence.{Offence}
use Rattle.paper.specs.Told.{tells}
use Rattle.query.specs.declared.Query.{Query}
use Rattle.reader.specs.Layout.{Each, FirstBroken}
use Rattle.words.specs.declared.Order.{Order}
use Rattle.scsi.specs.Data.{whole_of, torn_of}
use Rattle.scsi.specs.Judgement.{reading, place, heard, read_of, slot_of}
use Rattle.scsi.specs.Layout.{data_rules}
use Rattle.scsi.specs.Reserved.{LooksAlike}
use Rattle.scsi.specs.declared.Reading.{Reading}

-- no second answer fits
abbrev pub OneJudgement : Type 0
OneJudgement = (o : Order) (s : List ℕ) (q : Query) (a b : Result Reading Offence) → heard a ≡ read_of o s q → heard b ≡ read_of o s q → a ≡ b

-- ## What of a list is there

-- a descriptor is there whole exactly if it is in the list, and its 32 bytes are there
abbrev pub WholeExactly : Type 0
WholeExactly =
    (n size k : ℕ) → (k < whole_of n size → (k < n) × (base_of k + 32 ≤ size)) × ((k < n) × (base_of k + 32 ≤ size) → k < whole_of n size)

-- "a descriptor cut through": the first that is not there whole has begun
abbrev pub TornExactly : Type 0
TornExactly =
    (n size : ℕ) → 32 ≤ size
    → (torn_of n size ≡ true → (whole_of n size < n) × (base_of (whole_of n size) < size))
    × ((whole_of n size < n) × (base_of (whole_of n size) < size) → torn_of n size ≡ true)

-- ## The layout theorem, in either byte order

-- data is taken, with its header's numbers and what of the list is there, exactly if it keeps each rule
abbrev pub TakesExactly : Type 0
TakesExactly =
    (o : Order) (s : List ℕ) (q : Query)
    → ((read_of o s q).number ≡ 0 → Each (data_rules o s q))
    × (Each (data_rules o s q)
    → read_of o s q ≡ tells 0 (reading (header_in o s) (whole_of (header_in o s).number (length s)) (torn_of (header_in o s).number (length s))))

-- it is refused at a place exactly if the first rule that it breaks has that place
abbrev pub RefusesExactly : Type 0
RefusesExactly =
    (o : Order) (s : List ℕ) (q : Query) (p : ℕ)
    → (read_of o s q ≡ tells 9 (place p) → FirstBroken (data_rules o s q) p) × (FirstBroken (data_rules o s q) p → read_of o s q ≡ tells 9 (place p))

-- ## "Reserved bytes are not looked at", and what is there of a descriptor that was cut through is not either

-- of data that looks alike the reader says the same, for every request, and holds the same descriptor at every number
abbrev pub ReservedUnseen : Type 0
ReservedUnseen =
    (o : Order) (s t : List ℕ) → LooksAlike o s t
    → ((q : Query) → read_of o s q ≡ read_of o t q) × ((k : ℕ) → slot_of o s k ≡ slot_of o t k)
