-- Document 01, "The reader": "Reserved bytes are not looked at." Two pages that are alike but for these.
use Rattle.std.specs.Prelude.{ℕ, ◌≤◌, ◌<◌, List, ◌≡◌, length, get_or, drop}
use Rattle.layout.specs.Bytes.{header_in}
use Rattle.layout.specs.Reserved.{HeadersAlike, DescriptorsAlike}
use Rattle.offences.specs.Checks.{base_of}
use Rattle.words.specs.declared.Order.{Order}

-- as long as each other; header and returned descriptors alike but for what is reserved; the padding after them byte for byte
pub record LooksAlike (o : Order) (s t : List ℕ) : Type 0 where
  pub long : length s ≡ length t
  pub header : HeadersAlike s t
  pub list : (k : ℕ) → k < (header_in o s).returned → DescriptorsAlike (drop (base_of k) s) (drop (base_of k) t)
  pub padding : (at : ℕ) → base_of (header_in o s).returned ≤ at → get_or s at 0 ≡ get_or t at 0
