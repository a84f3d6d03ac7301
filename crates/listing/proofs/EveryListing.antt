-- How many lines a listing has: their descriptors are all there, and 80,000 bytes are enough for every listing (specs/Promises).
use Prim.Native.Nat.{ℕ, ◌-◌, ◌*◌, ◌/◌, ◌≤◌}
use mathlib.Core.Bool.{Bool, true, false, cond}
use mathlib.Core.List.{List}
use mathlib.Core.Path.{◌≡◌, refl, ap}
use native.Mathlib.Omega.{arith}
use lib.Dec.{ltb}
use lib.ListN.{length, length-append}
use borrow.Author.Tests.{le-ltb, ltb-false}
use Rattle.entries.proofs.Entries.{There, none_there, below_few}
use Rattle.entries.specs.Entries.{lines_below}
use Rattle.heading.proofs.Heading.{length_header, length-refused}
use Rattle.layout.specs.declared.Header.{Header}
use Rattle.paper.specs.Told.{tells}
use Rattle.reader.proofs.LayoutTheorem.{with_header}
use Rattle.reader.proofs.Taken.{taken, room}
use Rattle.reader.specs.Judgement.{Values, header, place, read_of}
use Rattle.request.specs.Requests.{request_of}
use Rattle.words.specs.declared.Order.TheVariants.{Little}
use Rattle.listing.specs.Listing.{judged, first_line, line_count, listing_of}
use Rattle.listing.specs.Promises.{Enough}

-- ## How many lines: a page is as long as they need, and 128 pages have room for 2,047

read_there : (s : List ℕ) → length s ≤ 65536 → There (line_count (read_of Little s (request_of s)).state) (length s)
read_there s most = by_values (read_of Little s (request_of s)).state refl
  where
    by_values : (v : Values) → (read_of Little s (request_of s)).state ≡ v → There (line_count v) (length s)
    by_values (place p) e = none_there (length s)
    by_values (header h) e =
        let (is_0, is_h) = with_header Little s (request_of s) h e in
        let few : h.returned ≤ 16 * (length s / 512) - 1 =
        omega (arith, room Little s (request_of s) (taken Little s (request_of s) is_0), ap (λ (g : Header). g.returned) is_h) in
        (λ some. omega arith, omega arith)

pub there : (s : List ℕ) → There (line_count (judged s).state) (length s)
there s = by_test (ltb 65536 (length s)) refl
  where
    by_test : (t : Bool) → ltb 65536 (length s) ≡ t → There (line_count (cond t (tells 9 (place 65536)) (read_of Little s (request_of s))).state) (length s)
    by_test true e = none_there (length s)
    by_test false e = read_there s (ltb-false 65536 (length s) e)

-- ## How long

length-first : (v : Values) → length (first_line v) ≤ 128
length-first (header h) = length_header h
length-first (place p) = length-refused p

length_listing : (s : List ℕ) → length (listing_of s) ≤ 80000
unfolding listing_of
length_listing s =
    rw (length-append (first_line (judged s).state) (lines_below Little s (line_count (judged s).state)))
    (omega (arith, (there s).1, length-first (judged s).state, below_few Little s (line_count (judged s).state)))

pub enough : Enough
enough s out h = rw (le-ltb (length out) (length (listing_of s)) (omega (arith, length_listing s)))
