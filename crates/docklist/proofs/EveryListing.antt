-- How many lines a listing has: their descriptors are all there, and 80,000 bytes are enough for every listing (specs/Promises).
use Prim.Native.Nat.{ℕ, ◌≤◌}
use mathlib.Core.Bool.{Bool, true, false, cond}
use mathlib.Core.List.{List, ◌++◌}
use mathlib.Core.Path.{◌≡◌, refl}
use native.Mathlib.Omega.{arith}
use lib.Dec.{ltb}
use lib.ListN.{length, length-append}
use borrow.Author.Tests.{le-ltb, ltb-false}
use Rattle.entries.proofs.Entries.{There, none_there, below_few}
use Rattle.entries.specs.Entries.{lines_below}
use Rattle.heading.proofs.Heading.{length_header, length-refused}
use Rattle.layout.specs.Bytes.{header_in}
use Rattle.layout.specs.declared.Header.{Header}
use Rattle.std.proofs.Common.{Ok, Err, Result}
use Rattle.std.specs.Prelude.{⊤}
use Rattle.offences.specs.declared.Offence.{Offence}
use Rattle.paper.specs.Told.{tells}
use Rattle.query.specs.Queries.{plain}
use Rattle.rows.specs.Rows.{header_line}
use Rattle.scsi.specs.Data.{whole_of, data_offence}
use Rattle.scsi.specs.Judgement.{Values, reading, place, answer_of, read_of}
use Rattle.tally.proofs.Line.{length_tally}
use Rattle.tally.specs.Tally.{tally_line}
use Rattle.words.specs.declared.Order.TheVariants.{Big}
use Rattle.docklist.specs.Docklist.{judged, text_for, listing_of}
use Rattle.docklist.specs.Promises.{Enough}

-- ## How many lines: those that are there whole, and 65,536 bytes have room for 2,047

abbrev pub line_count : Values → ℕ
line_count (reading h whole torn) = whole
line_count (place p) = 0

whole_there : (n size : ℕ) → size ≤ 65536 → There (whole_of n size) size
whole_there n size most = (λ some. omega arith, omega arith)

answer_there : (f : Result ⊤ Offence) (h : Header) (n size : ℕ) (torn : Bool) → size ≤ 65536 → There (line_count (answer_of f h (whole_of n size) torn).state) size
answer_there (Ok _) h n size torn most = whole_there n size most
answer_there (Err p) h n size torn most = none_there size

pub there : (s : List ℕ) → There (line_count (judged s).state) (length s)
there s = by_test (ltb 65536 (length s)) refl
  where
    by_test : (t : Bool) → ltb 65536 (length s) ≡ t → There (line_count (cond t (tells 9 (place 65536)) (read_of Big s plain)).state) (length s)
    by_test true e = none_there (length s)
    by_test false e = answer_there (data_offence Big s plain) (header_in Big s) (header_in Big s).number (length s) _ (ltb-false 65536 (length s) e)

-- ## How long

length_text : (s : List ℕ) (v : Values) → line_count v ≤ 2047 → length (text_for s v) ≤ 80000
length_text s (place p) few = omega (arith, length-refused p)
length_text s (reading h whole torn) few =
    let two : List ℕ = header_line h ++ lines_below Big s whole in
    omega (
      arith,
      length-append two (tally_line whole h.number torn),
      length-append (header_line h) (lines_below Big s whole),
      length_header h,
      below_few Big s whole,
      length_tally whole h.number torn,
    )

pub enough : Enough
unfolding listing_of
enough s out h = rw (le-ltb (length out) (length (listing_of s)) (omega (arith, length_text s (judged s).state (there s).1)))
