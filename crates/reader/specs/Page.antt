-- Document 01, "The reader": the checks of a whole page.
use Rattle.std.specs.Prelude.{ℕ, ◌+◌, ◌-◌, ◌*◌, not, List, eqb, length, get_or, Result, ⊤}
use Rattle.layout.specs.Bytes.{header_in, returned_of}
use Rattle.offences.specs.Checks.{base_of, offence_at}
use Rattle.offences.specs.First.{unless, ◌or_else◌, first_below}
use Rattle.offences.specs.declared.Offence.{Offence}
use Rattle.request.specs.Requests.{pages_of, refused}
use Rattle.request.specs.declared.Request.{Request}
use Rattle.words.specs.declared.Order.{Order}

-- "then the first non-zero padding byte"
abbrev pub padding_at : List ℕ → ℕ → ℕ → Result ⊤ Offence
padding_at s from i = unless (eqb (get_or s (from + i) 0) 0) (from + i)

-- the descriptors, and the padding after them
abbrev pub contents_of : Order → List ℕ → Request → ℕ → Result ⊤ Offence
contents_of o s q count = first_below count (offence_at o s q) or_else first_below (length s - base_of count) (padding_at s (base_of count))

-- "A request that would get 4 gets 9 at place 0"; "length not 512p .. (place 0); returned not the smaller of N and 16p - 1 (4); then each descriptor"
abbrev pub page_offence : Order → List ℕ → Request → Result ⊤ Offence
page_offence o s q =
    unless (not (refused q)) 0 or_else
    (unless (eqb (length s) (512 * pages_of q)) 0 or_else
    (unless (eqb (header_in o s).returned (returned_of (header_in o s).number (pages_of q))) 4 or_else
    contents_of o s q (header_in o s).returned))
