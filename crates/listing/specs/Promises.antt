-- What holds of every listing; that no second answer fits, and that a refusal writes nothing, is said of any bytes in a lent buffer
-- (paper/specs/Promises). Each is a statement; proofs/ has the proof under the same name in lower case.
use Rattle.std.specs.Prelude.{ℕ, ◌≤◌, List, ◌≡◌, length}
use Rattle.reader.specs.Reserved.{LooksAlike}
use Rattle.words.specs.declared.Order.TheVariants.{Little}
use Rattle.listing.specs.Listing.{listing_of, listed}

-- room for every listing
abbrev pub Enough : Type 0
Enough = (s out : List ℕ) → 80000 ≤ length out → (listed s out).number ≡ 0

-- "Reserved bytes are not looked at": pages that look alike are listed alike
abbrev pub ReservedUnlisted : Type 0
ReservedUnlisted = (s t : List ℕ) → LooksAlike Little s t → listing_of s ≡ listing_of t
