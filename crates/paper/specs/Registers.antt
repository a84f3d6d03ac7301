-- Document 01, "The recorder's store": the registers of a command, and what counts of them.
use Rattle.std.specs.Prelude.{◌+◌, ◌*◌, ◌%◌, ◌^◌}
use Rattle.paper.specs.declared.ElementId.{ElementId}
use Rattle.paper.specs.declared.Lba.{Lba}
use Rattle.paper.specs.declared.Registers.{Registers}

-- "FEATURE and COUNT have 16 bits, LBA has 48; if more bits of LBA are handed over, those above bit 47 are ignored."
abbrev pub low48 : Lba → Lba
low48 lba = record { 0 = lba.0 % 2 ^ 48 }

-- "Identifier = FEATURE x 65,536 + COUNT"
abbrev pub identifier_of : Registers → ElementId
identifier_of r = record { 0 = r.feature * 65536 + r.count }
