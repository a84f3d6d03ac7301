-- Document 01, "The other commands": the numbers; no store is made.
use Rattle.std.specs.Prelude.{ℕ, ◌+◌, Bool, cond, not, ◌&&◌, ◌||◌, [], ◌∷◌, ltb, eqb}
use Rattle.cells.specs.Cells.{is_set, busy_number, failed_number}
use Rattle.cells.specs.declared.Mark.{Mark}
use Rattle.open.specs.Open.{is_open}
use Rattle.paper.specs.Registers.{low48}
use Rattle.paper.specs.declared.Lba.{Lba}
use Rattle.paper.specs.declared.Registers.{Registers}
use Rattle.slices.specs.Lists.{one_of}
use Rattle.device.specs.Record.{under_way}
use Rattle.device.specs.declared.Device.{Device}

-- "24h, 25h, 34h, 35h, 42h (EXT reads, writes, verify: media access)"
abbrev pub is_media : ℕ → Bool
is_media code = one_of code (0x24 ∷ 0x25 ∷ 0x34 ∷ 0x35 ∷ 0x42 ∷ [])

-- "ECh; E1h; 2Fh and 47h (log address LBA 7:0); 0Bh; F2h; EFh and B0h (subcommand FEATURE 7:0)"; 7Ch and 12h have rules of their own
-- (specs/Machine) and do not come here
abbrev pub is_named : ℕ → Bool
is_named code = is_media code || one_of code (0xEC ∷ 0xE1 ∷ 0x2F ∷ 0x47 ∷ 0x0B ∷ 0xF2 ∷ 0xEF ∷ 0xB0 ∷ [])

-- "COUNT 0 means 65,536 sectors"
abbrev pub sectors_of : ℕ → ℕ
sectors_of count = cond (eqb count 0) 65536 count

-- "last sector above the accessible max": the sector past the last one, above the one past the maximum
abbrev pub is_beyond : ℕ → Lba → ℕ → Bool
is_beyond accessible lba count = ltb (accessible + 1) ((low48 lba).0 + sectors_of count)

-- "media access with the failed mark: 3; last sector above the accessible max: 5; else 0"
unfoldable pub media_number : Mark → Lba → ℕ → Lba → ℕ
media_number failed accessible count lba = cond (is_set failed) (failed_number failed) (cond (is_beyond accessible.0 lba count) 5 0)

-- "Order: not open during a removal: 2; unknown: 6; media access ..; else 0"
unfoldable pub other_number : Device → Registers → ℕ
other_number d r =
    cond (under_way d && not (is_open r.code r.feature r.lba.0)) (busy_number d.cells)
    (cond (not (is_named r.code)) 6
    (cond (is_media r.code) (media_number d.cells.failed d.cells.accessible r.count r.lba) 0))
