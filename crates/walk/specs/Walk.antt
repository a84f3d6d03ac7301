-- Document 02, 2026-04: a whole walk, over whatever pages come.
use Rattle.std.specs.Prelude.{ℕ, zero, suc, cond, List, [], ◌∷◌, ◌++◌, option_to_list}
use Rattle.layout.specs.Bytes.{header_in}
use Rattle.layout.specs.declared.Descriptor.{Descriptor}
use Rattle.paper.specs.declared.ElementId.{ElementId}
use Rattle.paper.specs.declared.PageCount.{PageCount}
use Rattle.reach.specs.Opening.{accepted}
use Rattle.reader.specs.Judgement.{slot_of}
use Rattle.request.specs.declared.Request.{Request}
use Rattle.slices.specs.Lists.{flat}
use Rattle.words.specs.declared.Order.TheVariants.{Little}
use Rattle.walk.specs.Next.{Values, ask, end, place, next_of, next_request}

-- ## What a walk does

-- what comes for a request: a page; and for how many pages the walk asks next, where it goes on: "any mix of page counts"
pub record Came : Type 0 where
  pub page : List ℕ
  pub next : PageCount

-- a request that was sent, and the page that came
pub record Round : Type 0 where
  pub request : Request
  pub page : List ℕ

abbrev pub round : Request → List ℕ → Round
round q s = record { request = q; page = s }

-- then the walk has ended, is stopped by a page that is refused at a place, or waits for a page
pub data Stand : Type 0 where
  ended : Stand
  stopped : ℕ → Stand
  waits : Stand

pub record Walked : Type 0 where
  pub rounds : List Round
  pub stand : Stand

abbrev pub walked : List Round → Stand → Walked
walked rs s = record { rounds = rs; stand = s }

abbrev pub followed : Round → Values → (ElementId → Walked) → Walked
followed r (ask id) rest = walked (r ∷ (rest id).rounds) (rest id).stand
followed r end rest = walked (r ∷ []) ended
followed r (place p) rest = walked (r ∷ []) (stopped p)

-- from its first request on, as far as pages come
unfoldable pub walk : Request → List Came → Walked
walk q [] = walked [] waits
walk q (c ∷ cs) = followed (round q c.page) (next_of c.page q).state (λ id. walk (next_request q id c.next) cs)

-- ## What it lists

-- descriptors 0 to n - 1 of a page, as the reader has them
abbrev pub held_below : List ℕ → ℕ → List Descriptor
held_below s zero = []
held_below s (suc n) = held_below s n ++ option_to_list (slot_of Little s n)

-- of a page that the reader takes
unfoldable pub elements_in : Round → List Descriptor
elements_in r = cond (accepted r.page r.request) (held_below r.page (header_in Little r.page).returned) []

-- of all its pages, one after the other
abbrev pub listed : Walked → List Descriptor
listed w = flat elements_in w.rounds
