-- Document 01, "The other commands", mended by request 2026-02: what 002 has open during a removal.
use Rattle.std.specs.Prelude.{ℕ, ◌%◌, ◌^◌, Bool, ◌&&◌, ◌||◌, [], ◌∷◌, eqb}
use Rattle.slices.specs.Lists.{one_of}

abbrev pub log_of : ℕ → ℕ
log_of lba = lba % 2 ^ 8

abbrev pub subcommand_of : ℕ → ℕ
subcommand_of feature = feature % 2 ^ 8

-- 2026-02: "FEATURE 7:0 = 44h and LBA 27:0 = 0554E4Ch"
abbrev pub is_unload : ℕ → ℕ → Bool
is_unload feature lba = eqb (feature % 2 ^ 8) 0x44 && eqb (lba % 2 ^ 28) 0x0554E4C

-- "Open during a removal (002): ECh; E1h", of which 2026-02 leaves "only the Unload form"; "2Fh and 47h for logs 04h, 10h, 30h, E0h; 0Bh;
-- F2h; EFh with 07h; B0h with D5h for logs 30h, E0h (LBA 7:0), or with DAh"
unfoldable pub is_open : ℕ → ℕ → ℕ → Bool
is_open code feature lba =
    eqb code 0xEC
    || (eqb code 0xE1 && is_unload feature lba)
    || (one_of code (0x2F ∷ 0x47 ∷ []) && one_of (log_of lba) (0x04 ∷ 0x10 ∷ 0x30 ∷ 0xE0 ∷ []))
    || eqb code 0x0B
    || eqb code 0xF2
    || (eqb code 0xEF && eqb (subcommand_of feature) 0x07)
    || (eqb code 0xB0 && ((eqb (subcommand_of feature) 0xD5 && one_of (log_of lba) (0x30 ∷ 0xE0 ∷ [])) || eqb (subcommand_of feature) 0xDA))
