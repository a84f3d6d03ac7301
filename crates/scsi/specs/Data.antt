-- Request 2026-03: SCSI data, in either byte order: what of its list is there, and its checks.
use Rattle.std.specs.Prelude.{ℕ, ◌-◌, ◌/◌, ◌%◌, min, Bool, not, ◌&&◌, List, eqb, leb, ltb, length, Result, ⊤}
use Rattle.layout.specs.Bytes.{header_in}
use Rattle.offences.specs.Checks.{base_of, offence_at}
use Rattle.offences.specs.First.{unless, ◌or_else◌, first_below}
use Rattle.offences.specs.declared.Offence.{Offence}
use Rattle.query.specs.Queries.{due_four, asked}
use Rattle.query.specs.declared.Query.{Query}
use Rattle.words.specs.declared.Order.{Order}

-- of a list of n in so many bytes, the descriptors that are there whole; none where the header is not
abbrev pub whole_of : ℕ → ℕ → ℕ
whole_of n size = min n ((size - 32) / 32)

-- "a descriptor cut through": the list goes on, and the bytes end inside a descriptor
abbrev pub torn_of : ℕ → ℕ → Bool
torn_of n size = ltb size (base_of n) && not (eqb (size % 32) 0)

-- "the ATA reader's descriptor offences in its order", of those there whole; "then the first byte past the list"
abbrev pub contents_of : Order → List ℕ → Query → ℕ → ℕ → Result ⊤ Offence
contents_of o s q n whole = first_below whole (offence_at o s (asked q)) or_else unless (leb (length s) (base_of n)) (base_of n)

-- "length below 32 or a request with a filter or report type due 4 (0), returned not N (4)"
abbrev pub data_offence : Order → List ℕ → Query → Result ⊤ Offence
data_offence o s q =
    let n = (header_in o s).number in
    unless (leb 32 (length s)) 0 or_else
    (unless (not (due_four q)) 0 or_else
    (unless (eqb (header_in o s).returned n) 4 or_else
    contents_of o s q n (whole_of n (length s))))
