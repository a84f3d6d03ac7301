-- What holds of every opening. Each is a statement; proofs/ has the proof under the same name in lower case.
use Rattle.std.specs.Prelude.{ℕ, ◌-◌, ◌≤◌, ◌<◌, true, List, ◌≡◌, Option, Some, Result}
use Rattle.layout.specs.Bytes.{header_in, room_of}
use Rattle.paper.specs.declared.ElementId.{ElementId}
use Rattle.reader.specs.Reserved.{LooksAlike}
use Rattle.request.specs.Requests.{pages_of}
use Rattle.request.specs.declared.Request.{Request}
use Rattle.words.specs.declared.Order.TheVariants.{Little}
use Rattle.reach.specs.Opening.{heard, accepted, open_of, judged}
use Rattle.reach.specs.Pages.{count_of, element_at, reach_of}
use Rattle.reach.specs.declared.Turn.{Turn}

-- no second answer fits
abbrev pub OneOpening : Type 0
OneOpening = (s t : List ℕ) (q : Request) (a b : Result (Option ElementId) Turn) → heard a ≡ open_of s t q → heard b ≡ open_of s t q → a ≡ b

abbrev pub OneJudgement : Type 0
OneJudgement = (s t : List ℕ) (a b : Result (Option ElementId) Turn) → heard a ≡ judged s t → heard b ≡ judged s t → a ≡ b

-- "If a page was cut short (N above returned)": an accepted one has "16p - 1" descriptors, and bounds the comparison at the last one's
-- identifier, which is a real one
abbrev pub CutBounds : Type 0
CutBounds =
    (s : List ℕ) (q : Request) → accepted s q ≡ true → (header_in Little s).returned < (header_in Little s).number
    → (count_of s ≡ room_of (pages_of q)) × (reach_of s ≡ Some (element_at s (count_of s - 1)).id) × (1 ≤ (element_at s (count_of s - 1)).id.0)

-- "Reserved bytes are not looked at": pages that look alike are opened alike; s and t look like s' and t'
abbrev pub ReservedUnopened : Type 0
ReservedUnopened =
    (s s' t t' : List ℕ) → LooksAlike Little s s' → LooksAlike Little t t'
    → ((q : Request) → open_of s t q ≡ open_of s' t' q) × (judged s t ≡ judged s' t')
