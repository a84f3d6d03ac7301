-- What holds of every page and of every walk, whatever pages come. Each is a statement; proofs/ has the proof under the same name in lower case.
use Rattle.std.specs.Prelude.{ℕ, suc, ◌+◌, ◌/◌, ◌≤◌, ◌<◌, true, false, List, [], ◌∷◌, ◌⊎◌, ◌≡◌, length, Option, Some, Result}
use Rattle.layout.specs.Bytes.{header_in}
use Rattle.layout.specs.declared.Descriptor.{Descriptor}
use Rattle.offences.specs.Checks.{last_before}
use Rattle.offences.specs.declared.Offence.{Offence}
use Rattle.paper.specs.Told.{tells}
use Rattle.paper.specs.declared.ElementId.{ElementId}
use Rattle.paper.specs.declared.PageCount.{PageCount}
use Rattle.reach.specs.Opening.{accepted}
use Rattle.reader.specs.Judgement as reader
use Rattle.reader.specs.Reserved.{LooksAlike}
use Rattle.request.specs.Requests.{SameFields, start_of, refused}
use Rattle.request.specs.declared.Request.{Request}
use Rattle.slices.specs.Lists.{Every}
use Rattle.words.specs.declared.Order.TheVariants.{Little}
use Rattle.walk.specs.Next.{ask, end, place, heard, next_of, next_request}
use Rattle.walk.specs.Walk.{Came, Round, round, ended, followed, walk, elements_in}

-- ## After a page

-- no second answer fits
abbrev pub OneNext : Type 0
OneNext = (s : List ℕ) (q : Request) (a b : Result (Option ElementId) Offence) → heard a ≡ next_of s q → heard b ≡ next_of s q → a ≡ b

-- "9 with the reader's place", and nothing else is refused
abbrev pub RefusesAsReader : Type 0
RefusesAsReader =
    (s : List ℕ) (q : Request) (p : ℕ)
    → (next_of s q ≡ tells 9 (place p) → reader.read_of Little s q ≡ tells 9 (reader.place p))
    × (reader.read_of Little s q ≡ tells 9 (reader.place p) → next_of s q ≡ tells 9 (place p))

-- "It ends where N equals returned", and after FFFF_FFFFh, above which no identifier is
abbrev pub Ends : List ℕ → Type 0
Ends s = let h = header_in Little s in (h.number ≡ h.returned) ⊎ (0xFFFF_FFFF ≤ last_before Little s h.returned)

abbrev pub EndsExactly : Type 0
EndsExactly =
    (s : List ℕ) (q : Request) → accepted s q ≡ true → (next_of s q ≡ tells 0 end → Ends s) × (Ends s → next_of s q ≡ tells 0 end)

-- a page that leads to a start
pub record Leads (s : List ℕ) (q : Request) (id : ElementId) : Type 0 where
  -- the reader takes it, and it was cut short
  pub taken : accepted s q ≡ true
  pub cut : (header_in Little s).returned < (header_in Little s).number
  -- so it has a last descriptor: "16p - 1 is at least 15"
  pub some : 15 ≤ (header_in Little s).returned
  pub last : Descriptor
  pub held : (k : ℕ) → suc k ≡ (header_in Little s).returned → reader.slot_of Little s k ≡ Some last
  -- "starts the next at the last identifier plus one"; "never .. above FFFF_FFFFh"
  pub plus_one : id.0 ≡ last.id.0 + 1
  pub low : id.0 ≤ 0xFFFF_FFFF

abbrev pub AsksExactly : Type 0
AsksExactly = (s : List ℕ) (q : Request) (id : ElementId) → (next_of s q ≡ tells 0 (ask id) → Leads s q id) × (Leads s q id → next_of s q ≡ tells 0 (ask id))

-- the next request is then not due 4, for any "page counts from 1"
abbrev pub NextAsked : Type 0
NextAsked = (s : List ℕ) (q : Request) (id : ElementId) (pages : PageCount) → Leads s q id → 1 ≤ pages.0 → refused (next_request q id pages) ≡ false

-- requests that are alike in their fields, and in whether they set a reserved bit, lead alike
abbrev pub IgnoredUnasked : Type 0
IgnoredUnasked = (s : List ℕ) (p q : Request) → SameFields p q → next_of s p ≡ next_of s q

-- "Reserved bytes are not looked at": pages that look alike lead alike, and list the same
abbrev pub ReservedUnasked : Type 0
ReservedUnasked =
    (s t : List ℕ) → LooksAlike Little s t → (q : Request) → (next_of s q ≡ next_of t q) × (elements_in (round q s) ≡ elements_in (round q t))

-- ## A whole walk

-- it goes by what the call answers
abbrev pub GoesByNext : Type 0
GoesByNext =
    (q : Request) (c : Came) (cs : List Came) (m : Result (Option ElementId) Offence) → heard m ≡ next_of c.page q
    → walk q (c ∷ cs) ≡ followed (round q c.page) (heard m).state (λ id. walk (next_request q id c.next) cs)

-- a round after another: the page before led to its start
pub record Follows (before after : Round) : Type 0 where
  pub id : ElementId
  pub led : Leads before.page before.request id
  pub pages : PageCount
  pub next : after.request ≡ next_request before.request id pages
  pub start : start_of after.request ≡ id.0

abbrev pub Chained : Round → List Round → Type 0
Chained r [] = Unit {0}
Chained r (t ∷ ts) = Follows r t × Chained t ts

abbrev pub Linked : List Round → Type 0
Linked [] = Unit {0}
Linked (r ∷ rs) = Chained r rs

-- every request but the first starts at the last identifier plus one
abbrev pub StartsFollow : Type 0
StartsFollow = (q : Request) (cs : List Came) → Linked (walk q cs).rounds

-- of the last of some, which there is
abbrev pub Last : (Round → Type 0) → List Round → Type 0
Last P [] = ⊥
Last P (r ∷ []) = P r
Last P (r ∷ t ∷ ts) = Last P (t ∷ ts)

-- a walk that has ended has read each of its pages, and ended at the last
abbrev pub EndsLast : Type 0
EndsLast =
    (q : Request) (cs : List Came) → (walk q cs).stand ≡ ended
    → Every (λ (r : Round). accepted r.page r.request ≡ true) (walk q cs).rounds × Last (λ (r : Round). Ends r.page) (walk q cs).rounds

-- however many pages come, it does not go on for ever: one that leads on has 15 identifiers at least below the next start
abbrev pub AlwaysStops : Type 0
AlwaysStops = (q : Request) (cs : List Came) → length (walk q cs).rounds ≤ 0xFFFF_FFFF / 15
