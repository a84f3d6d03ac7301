-- What a call changes on the bench (docs/BENCH.md).
use Rattle.std.specs.Prelude.{ℕ, ◌+◌, min, Bool, cond, ◌||◌, List, eqb, leb, set}
use Rattle.device.specs.declared.Device.{Device}
use Rattle.device.specs.declared.Stepped.{Stepped}
use Rattle.offer.specs.declared.Element.{Element}
use Rattle.offer.specs.declared.Offer.{Offer}
use Rattle.paper.specs.Answers.{number_of}
use Rattle.paper.specs.declared.Answer.{Answer}
use Rattle.workbench.specs.Empty.{no_offer}
use Rattle.workbench.specs.declared.Bench.{Bench}

-- 128 records have a place
abbrev pub with_element : List Element → ℕ → Element → List Element
with_element elements place e = cond (leb 128 place) elements (set elements place e)

-- "`element ..` adds a record to the offered list .. (the list keeps its first 129)"
abbrev pub lengthened : Offer → Element → Offer
lengthened list e = record { elements = with_element list.elements list.count e; count = min list.count 128 + 1; limit = list.limit }

-- the bench with a record more in its list
abbrev pub with_record : Bench → Element → Bench
with_record b e = record { offered = lengthened b.offered e; made = b.made; device = b.device; kept = b.kept }

-- "`make LIMIT` offers the list"
abbrev pub offering : Bench → ℕ → Offer
offering b limit = record { elements = b.offered.elements; count = b.offered.count; limit = limit }

-- "a new device (0)", or the device that was there, if there was one
abbrev pub is_made : Bool → Answer → Bool
is_made made answer = made || eqb (number_of answer) 0

-- "and empties it"
abbrev pub after_making : Bench → Stepped → Bench
after_making b s = record { offered = no_offer; made = is_made b.made s.answer; device = s.device; kept = b.kept }

-- after an event of the device, all else as it was
abbrev pub with_device : Bench → Device → Bench
with_device b device = record { offered = b.offered; made = b.made; device = device; kept = b.kept }

-- after a call on the kept page, or one whose page is kept, all else as it was
abbrev pub with_kept : Bench → ℕ → Bench
with_kept b kept = record { offered = b.offered; made = b.made; device = b.device; kept = kept }
