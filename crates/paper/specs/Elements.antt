-- Document 01, "Table and cells", and 000, tables 18 and 19: an element's type and health bytes.
use Rattle.std.specs.Prelude.{ℕ, Bool, ◌&&◌, eqb, leb}

-- "a type byte (01h is storage)"
abbrev pub storage_type : ℕ → Bool
storage_type kind = eqb kind 0x01

-- 000, table 19: "FFh depopulated"
abbrev pub removed_health : ℕ → Bool
removed_health health = eqb health 0xFF

-- "a health 00h to CFh"
abbrev pub graded_health : ℕ → Bool
graded_health health = leb health 0xCF

-- 000, table 19: "65h to CFh outside manufacturer's specification limit"
abbrev pub slow : ℕ → Bool
slow health = leb 0x65 health && graded_health health
