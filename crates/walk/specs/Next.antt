-- Document 02, 2026-04: "The pit tablet sends one request at a time and starts the next at the last identifier plus one." What it does after a
-- page, and its next request.
use Rattle.std.specs.Prelude.{ℕ, ◌+◌, cond, List, ltb, Option, Some, None, Result, Ok, Err}
use Rattle.offences.specs.declared.Offence.{Offence}
use Rattle.paper.specs.Told.{Told, tells}
use Rattle.paper.specs.declared.ElementId.{ElementId}
use Rattle.paper.specs.declared.PageCount.{PageCount}
use Rattle.reach.specs.Pages.{reach_of}
use Rattle.reader.specs.Judgement as reader
use Rattle.request.specs.declared.Request.{Request}
use Rattle.words.specs.declared.Order.TheVariants.{Little}

-- ## After a page

-- what goes with the number: the next start, the walk's end, or a place
pub data Values : Type 0 where
  ask : ElementId → Values
  end : Values
  place : ℕ → Values

abbrev pub heard : Result (Option ElementId) Offence → Told Values
heard (Ok (Some id)) = tells 0 (ask id)
heard (Ok None) = tells 0 end
heard (Err e) = tells 9 (place e.0)

-- "It must never send a start above FFFF_FFFFh."
abbrev pub after : ElementId → Values
after last = cond (ltb last.0 0xFFFF_FFFF) (ask (record { 0 = last.0 + 1 })) end

-- "It ends where N equals returned": where the page was not cut short. A page that was cut short reaches to its last identifier
abbrev pub onward : Option ElementId → Values
onward None = end
onward (Some last) = after last

abbrev pub next_for : List ℕ → reader.Values → Told Values
next_for s (reader.header h) = tells 0 (onward (reach_of s))
next_for s (reader.place p) = tells 9 (place p)

-- of a page, as the answer to a request: first the reader's word
unfoldable pub next_of : List ℕ → Request → Told Values
next_of s q = next_for s (reader.read_of Little s q).state

-- ## The next request

-- it has the same FEATURE, so the same filter and report type, and any page count
abbrev pub next_request : Request → ElementId → PageCount → Request
next_request q start pages = record { feature = q.feature; count = pages; lba = record { 0 = start.0 } }
