-- What holds of every file's conversion; that no second answer fits, and that a refusal leaves every byte, is said of any outcome
-- (convert/specs/Promises). It is a statement; proofs/ has the proof under the same name in lower case.
use Rattle.std.specs.Prelude.{ℕ, ◌≤◌, List, ◌≡◌, length}
use Rattle.turning.specs.Turning.{scsi_of, ata_of}

-- room for every conversion, to pages "0 to 128"
abbrev pub Enough : Type 0
Enough = (s buf : List ℕ) → 65536 ≤ length buf → ((scsi_of s buf).number ≡ 7 → ⊥) × ((p : ℕ) → p ≤ 128 → (ata_of s p buf).number ≡ 7 → ⊥)
