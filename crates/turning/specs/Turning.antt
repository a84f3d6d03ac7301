-- Request 2026-03, `./recorder convert`: what a file is converted to, and the lent buffer.
use Rattle.std.specs.Prelude.{ℕ, List, leb, length, Result, ⊤}
use Rattle.convert.specs.Convert.{turned, paged, scsi_offence, ata_offence, Outcome, outcome}
use Rattle.offences.specs.First.{unless, ◌or_else◌}
use Rattle.offences.specs.declared.Offence.{Offence}
use Rattle.paper.specs.Told.{Told}
use Rattle.query.specs.Queries.{plain}
use Rattle.request.specs.Requests.{request_of}
use Rattle.words.specs.declared.Order.TheVariants.{Little, Big}

-- "Input above 65,536 bytes is refused at 65536"
abbrev pub within : List ℕ → Result ⊤ Offence
within s = unless (leb (length s) 65536) 65536

-- "turns an ATA page (request as the listing's) into SCSI data"
abbrev pub scsi_of : List ℕ → List ℕ → Told Outcome
scsi_of s buf = outcome (within s or_else scsi_offence s (request_of s)) (turned Little Big s) buf

-- "SCSI data into an ATA page"
abbrev pub ata_of : List ℕ → ℕ → List ℕ → Told Outcome
ata_of s pages buf = outcome (within s or_else ata_offence s plain pages) (paged pages s) buf
