-- What the reader says on paper, and the descriptor at a number.
use Rattle.std.specs.Prelude.{ℕ, cond, List, ltb, Option, None, Some, Result, Ok, Err, ⊤}
use Rattle.layout.specs.Bytes.{header_in}
use Rattle.layout.specs.declared.Descriptor.{Descriptor}
use Rattle.layout.specs.declared.Header.{Header}
use Rattle.offences.specs.Checks.{descriptor_at}
use Rattle.offences.specs.declared.Offence.{Offence}
use Rattle.paper.specs.Told.{Told, tells}
use Rattle.request.specs.declared.Request.{Request}
use Rattle.words.specs.declared.Order.{Order}
use Rattle.reader.specs.Page.{page_offence}

-- what goes with the number: the header's numbers, or a place
pub data Values : Type 0 where
  header : Header → Values
  place : ℕ → Values

-- "9 page refused, with a byte place"
abbrev pub heard : Result Header Offence → Told Values
heard (Ok h) = tells 0 (header h)
heard (Err e) = tells 9 (place e.0)

abbrev pub answer_of : Result ⊤ Offence → Header → Told Values
answer_of (Ok _) h = tells 0 (header h)
answer_of (Err e) h = tells 9 (place e.0)

-- a page whose numbers are in an order; document 01's are little-endian
abbrev pub read_of : Order → List ℕ → Request → Told Values
read_of o s q = answer_of (page_offence o s q) (header_in o s)

abbrev pub slot_of : Order → List ℕ → ℕ → Option Descriptor
slot_of o s k = cond (ltb k (header_in o s).returned) (Some (descriptor_at o s k)) None
