-- Pages that look alike are listed alike (specs/Promises): they have one length, one judgement and one descriptor at every number.
use Prim.Native.Nat.{ℕ, zero, suc, ◌/◌}
use mathlib.Core.Bool.{cond}
use mathlib.Core.List.{List, ◌++◌}
use mathlib.Core.Path.{◌≡◌, refl}
use lib.Dec.{ltb}
use Rattle.entries.specs.Entries.{lines_below}
use Rattle.paper.specs.Told.{tells}
use Rattle.reader.proofs.Reserved.{read_same, descriptor_same}
use Rattle.reader.specs.Judgement.{place}
use Rattle.reader.specs.Reserved.{LooksAlike}
use Rattle.request.specs.Requests.{request_for}
use Rattle.rows.specs.Rows.{descriptor_line}
use Rattle.words.specs.declared.Order.TheVariants.{Little}
use Rattle.listing.specs.Listing.{judged, first_line, line_count, listing_of}
use Rattle.listing.specs.Promises.{ReservedUnlisted}

module _ (s t : List ℕ) (alike : LooksAlike Little s t) where
  lines_same : (n : ℕ) → lines_below Little s n ≡ lines_below Little t n
  lines_same zero = refl
  lines_same (suc n) = λ i. lines_same n i ++ descriptor_line (descriptor_same Little s t alike n i)

  judged-same : judged s ≡ judged t
  judged-same = λ i. cond (ltb 65536 (alike.long i)) (tells 9 (place 65536)) (read_same Little s t alike (request_for (alike.long i / 512)) i)

pub reserved_unlisted : ReservedUnlisted
unfolding listing_of
reserved_unlisted s t alike = λ i. first_line (judged-same s t alike i).state ++ lines_same s t alike (line_count (judged-same s t alike i).state) i
