-- Document 01, "The reader": "Reserved bytes are not looked at." SCSI data, twice, that is alike but for these. "a descriptor cut through is
-- dropped", and bytes past the list are only counted, by the length: nothing is asked of the bytes of either.
use Rattle.std.specs.Prelude.{ℕ, ◌<◌, List, ◌≡◌, length, drop}
use Rattle.layout.specs.Bytes.{header_in}
use Rattle.layout.specs.Reserved.{HeadersAlike, DescriptorsAlike}
use Rattle.offences.specs.Checks.{base_of}
use Rattle.words.specs.declared.Order.{Order}
use Rattle.scsi.specs.Data.{whole_of}

-- as long as each other; header and whole descriptors alike but for what is reserved
pub record LooksAlike (o : Order) (s t : List ℕ) : Type 0 where
  pub long : length s ≡ length t
  pub header : HeadersAlike s t
  pub list : (k : ℕ) → k < whole_of (header_in o s).number (length s) → DescriptorsAlike (drop (base_of k) s) (drop (base_of k) t)
