-- docs/BENCH.md, `scsiread`: what the SCSI reader makes of the kept bytes.
use Rattle.std.specs.Prelude.{ℕ, List, ◌++◌, take}
use Rattle.query.specs.declared.Query.{Query}
use Rattle.scsi.specs.Judgement.{Values, reading, place, read_of, slot_of}
use Rattle.tally.specs.Tally.{tally_line}
use Rattle.words.specs.declared.Order.TheVariants.{Big}
use Rattle.contents.specs.Contents.{list_text, refused_line}

-- "`9 at PLACE`, or `0`, the header's line and the descriptors' lines as `read` has them, then `cut K of N`, or `torn K of N` where a descriptor is
-- cut through"
abbrev pub scsi_reading_for : List ℕ → Values → List ℕ
scsi_reading_for s (reading h whole torn) = list_text h (slot_of Big s) whole ++ tally_line whole h.number torn
scsi_reading_for s (place p) = refused_line p

-- the kept page has at most 65,536 bytes
unfoldable pub scsi_reading_of : List ℕ → Query → List ℕ
scsi_reading_of bytes q = scsi_reading_for (take 65536 bytes) (read_of Big (take 65536 bytes) q).state
