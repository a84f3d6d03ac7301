-- Request 2026-03: "Read it, write it, and turn one kind into the other."
use Rattle.std.specs.Prelude.{ℕ, ◌+◌, ◌-◌, ◌*◌, Bool, ◌&&◌, List, ◌++◌, map, eqb, leb, length, replicate, Result, Ok, Err, ⊤}
use Rattle.layout.specs.Bytes.{header_in, laid}
use Rattle.layout.specs.declared.Descriptor.{Descriptor}
use Rattle.offences.specs.Checks.{base_of, descriptor_at}
use Rattle.offences.specs.First.{unless, ◌or_else◌}
use Rattle.offences.specs.declared.Offence.{Offence}
use Rattle.paper.specs.Output.{Output, output, written}
use Rattle.paper.specs.Told.{Told, tells}
use Rattle.query.specs.declared.Query.{Query}
use Rattle.reader.specs.Page.{page_offence}
use Rattle.request.specs.declared.Request.{Request}
use Rattle.scsi.specs.Data.{whole_of, data_offence}
use Rattle.slices.specs.Lists.{up_to}
use Rattle.words.specs.declared.Order.TheVariants.{Little, Big}
use Rattle.words.specs.declared.Order.{Order}
use Rattle.convert.specs.declared.Refusal.TheVariants as refusals
use Rattle.convert.specs.declared.Refusal.{Refusal}

-- ## The bytes: "the same elements and header numbers", and "Reserved bytes become zero"

-- the first n descriptors
abbrev pub list_in : Order → List ℕ → ℕ → List Descriptor
list_in o s n = map (descriptor_at o s) (up_to n)

-- header and list, from one byte order to another
unfoldable pub turned : Order → Order → List ℕ → List ℕ
turned from to s = laid to (header_in from s) (list_in from s (header_in from s).number)

-- "512p": zeros after the list
unfoldable pub paged : ℕ → List ℕ → List ℕ
paged p s = turned Big Little s ++ replicate (512 * p - base_of (header_in Big s).number) 0

-- ## What is refused: "the source reader's refusals", and after these

-- "9 at 4 for a cut list"
abbrev pub scsi_offence : List ℕ → Request → Result ⊤ Offence
scsi_offence s q = page_offence Little s q or_else unless (eqb (header_in Little s).returned (header_in Little s).number) 4

-- "9 at 4 for a cut list or one above 16p - 1 for the pages asked": for p = 0 that is -1, so that every N is above it
abbrev pub fits_pages : ℕ → ℕ → ℕ → Bool
fits_pages whole n p = eqb whole n && leb (n + 1) (16 * p)

abbrev pub ata_offence : List ℕ → Query → ℕ → Result ⊤ Offence
ata_offence s q p =
    let n = (header_in Big s).number in
    data_offence Big s q or_else unless (fits_pages (whole_of n (length s)) n p) 4

-- ## The answer, and the lent buffer

-- what goes with the number: how many bytes were written, or a place; and the whole buffer
pub data Outcome : Type 0 where
  put : Output → Outcome
  place : ℕ → List ℕ → Outcome

abbrev pub buffer_of : Outcome → List ℕ
buffer_of (put out) = out.buffer
buffer_of (place p buf) = buf

abbrev pub heard : Result ℕ Refusal → List ℕ → Told Outcome
heard (Ok n) buf = tells 0 (put (output n buf))
heard (Err refusals.SmallBuffer) buf = tells 7 (put (output 0 buf))
heard (Err (refusals.Offence e)) buf = tells 9 (place e.0 buf)

-- "last, on writing or converting, 7 for a buffer below the bytes to be written"
abbrev pub outcome : Result ⊤ Offence → List ℕ → List ℕ → Told Outcome
outcome (Err e) bytes buf = tells 9 (place e.0 buf)
outcome (Ok _) bytes buf = tells (written bytes buf).number (put (written bytes buf).state)

abbrev pub to_scsi : List ℕ → Request → List ℕ → Told Outcome
to_scsi s q buf = outcome (scsi_offence s q) (turned Little Big s) buf

abbrev pub to_ata : List ℕ → Query → ℕ → List ℕ → Told Outcome
to_ata s q p buf = outcome (ata_offence s q p) (paged p s) buf
