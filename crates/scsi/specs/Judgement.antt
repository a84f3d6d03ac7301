-- What the reader of SCSI data says on paper, and the descriptor at a number.
use Rattle.std.specs.Prelude.{ℕ, Bool, cond, List, ltb, length, Option, None, Some, Result, Ok, Err, ⊤}
use Rattle.layout.specs.Bytes.{header_in}
use Rattle.layout.specs.declared.Descriptor.{Descriptor}
use Rattle.layout.specs.declared.Header.{Header}
use Rattle.offences.specs.Checks.{descriptor_at}
use Rattle.offences.specs.declared.Offence.{Offence}
use Rattle.paper.specs.Told.{Told, tells}
use Rattle.query.specs.declared.Query.{Query}
use Rattle.words.specs.declared.Order.{Order}
use Rattle.scsi.specs.Data.{whole_of, torn_of, data_offence}
use Rattle.scsi.specs.declared.Reading.{Reading}

-- what goes with the number: the header's numbers, how many whole descriptors are there and whether one was cut through; or a place
pub data Values : Type 0 where
  reading : Header → ℕ → Bool → Values
  place : ℕ → Values

-- "9 with the byte place"
abbrev pub heard : Result Reading Offence → Told Values
heard (Ok r) = tells 0 (reading r.header r.whole r.torn)
heard (Err e) = tells 9 (place e.0)

abbrev pub answer_of : Result ⊤ Offence → Header → ℕ → Bool → Told Values
answer_of (Ok _) h whole torn = tells 0 (reading h whole torn)
answer_of (Err e) h whole torn = tells 9 (place e.0)

-- data whose numbers are in an order; SCSI's are big-endian
abbrev pub read_of : Order → List ℕ → Query → Told Values
read_of o s q =
    let n = (header_in o s).number in
    answer_of (data_offence o s q) (header_in o s) (whole_of n (length s)) (torn_of n (length s))

abbrev pub slot_of : Order → List ℕ → ℕ → Option Descriptor
slot_of o s k = cond (ltb k (whole_of (header_in o s).number (length s))) (Some (descriptor_at o s k)) None
