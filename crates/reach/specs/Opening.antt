-- "Compare two that the reader accepted for the same request"; "Refusals: 9 with the page's turn, older first."
use Rattle.std.specs.Prelude.{ℕ, Bool, cond, List, eqb, ltb, length, Option, Result, Ok, Err}
use Rattle.paper.specs.Told.{Told, tells}
use Rattle.paper.specs.declared.ElementId.{ElementId}
use Rattle.reader.specs.Judgement.{read_of}
use Rattle.request.specs.Requests.{request_of}
use Rattle.request.specs.declared.Request.{Request}
use Rattle.words.specs.declared.Order.TheVariants.{Little}
use Rattle.reach.specs.Pages.{bound_of}
use Rattle.reach.specs.declared.Turn.TheVariants.{Older, Newer}
use Rattle.reach.specs.declared.Turn.{Turn}

-- what goes with the number: how far, or a page's turn
pub data Values : Type 0 where
  bound : Option ElementId → Values
  turn : Turn → Values

abbrev pub heard : Result (Option ElementId) Turn → Told Values
heard (Ok b) = tells 0 (bound b)
heard (Err t) = tells 9 (turn t)

-- the reader accepts the page for the request
unfoldable pub accepted : List ℕ → Request → Bool
accepted s q = eqb (read_of Little s q).number 0

abbrev pub open_of : List ℕ → List ℕ → Request → Told Values
open_of s t q = cond (accepted s q) (cond (accepted t q) (tells 0 (bound (bound_of s t))) (tells 9 (turn Newer))) (tells 9 (turn Older))

-- "As many pages as the files have, up to 65,536 bytes each, request as for the listing": it is one request, so with the older's pages. An
-- older page of more bytes is refused here; a newer one of another length than the older's, by the reader
unfoldable pub judged : List ℕ → List ℕ → Told Values
judged s t = cond (ltb 65536 (length s)) (tells 9 (turn Older)) (open_of s t (request_of s))
