-- Laws of a whole walk (specs/Promises): each round leads to the next, and a measure of the starts that falls by 15 with each bounds their number.
use Prim.Native.Nat.{ℕ, zero, suc, ◌+◌, ◌-◌, ◌*◌, ◌≤◌}
use mathlib.Core.Bool.{true}
use mathlib.Core.List.{List, [], ◌∷◌}
use mathlib.Core.Logic.{inl, inr}
use mathlib.Core.Path.{◌≡◌, refl, sym, ap, subst}
use native.Mathlib.Omega.{arith}
use lib.ListN.{length}
use Rattle.layout.specs.Bytes.{header_in}
use Rattle.offences.specs.Checks.{last_before}
use Rattle.paper.specs.Told.{Told, tells}
use Rattle.paper.specs.declared.ElementId.{ElementId}
use Rattle.paper.specs.declared.PageCount.{PageCount}
use Rattle.reach.specs.Opening.{accepted}
use Rattle.reader.proofs.Taken.{Taken}
use Rattle.reader.specs.Judgement as reader
use Rattle.request.specs.Requests.{start_of}
use Rattle.request.specs.declared.Request.{Request}
use Rattle.slices.specs.Lists.{Every}
use Rattle.words.specs.declared.Order.TheVariants.{Little}
use Rattle.walk.specs.Next.{Values, ask, end, place, next_of, next_request}
use Rattle.walk.specs.Promises.{Ends, Leads, GoesByNext, Follows, Chained, Linked, StartsFollow, Last, EndsLast, AlwaysStops}
use Rattle.walk.specs.Walk.{Came, Round, round, Stand, ended, stopped, waits, Walked, walked, followed, walk}
use Rattle.walk.proofs.Pages.{Way, way, refuses, whole, highest, leads, led_last, unstopped, page_taken}

-- ## A page more

module _ (P : Walked → Type 0) (q : Request) (c : Came) (cs : List Came) where
  abbrev r : Round
  r = round q c.page

  abbrev after : ElementId → Walked
  after id = walk (next_request q id c.next) cs

  pub by_value : (v : Values) → (next_of c.page q).state ≡ v → P (followed r v after) → P (walk q (c ∷ cs))
  unfolding walk
  by_value v e = subst (λ (w : Values). P (followed r w after)) (sym e)

  -- it is refused, is the last, or leads on
  pub by_way : ((p : ℕ) → reader.read_of Little c.page q ≡ tells 9 (reader.place p) → P (walked (r ∷ []) (stopped p)))
      → (accepted c.page q ≡ true → Ends c.page → P (walked (r ∷ []) ended))
      → ((id : ElementId) → Leads c.page q id → P (walked (r ∷ (after id).rounds) (after id).stand))
      → P (walk q (c ∷ cs))
  by_way stops last on = go (way c.page q)
    where
      go : Way c.page q → P (walk q (c ∷ cs))
      go (refuses p is_read is_next) = by_value (place p) (ap (λ (u : Told Values). u.state) is_next) (stops p is_read)
      go (whole ok all is_next) = by_value end (ap (λ (u : Told Values). u.state) is_next) (last ok (inl all))
      go (highest ok high is_next) = by_value end (ap (λ (u : Told Values). u.state) is_next) (last ok (inr high))
      go (leads id l is_next) = by_value (ask id) (ap (λ (u : Told Values). u.state) is_next) (on id l)

pub goes_by_next : GoesByNext
unfolding walk
goes_by_next q c cs m is_m =
    ap (λ (u : Told Values). followed (round q c.page) u.state (λ id. walk (next_request q id c.next) cs)) (sym is_m)

pub start_next : (q : Request) (s : List ℕ) (id : ElementId) (pages : PageCount) → Leads s q id → start_of (next_request q id pages) ≡ id.0
start_next q s id pages l = omega (arith, l.low)

-- ## Each round leads to the next

chained : (r : Round) (q : Request) (cs : List Came) → ((s : List ℕ) → Follows r (round q s)) → Linked (walk q cs).rounds → Chained r (walk q cs).rounds
unfolding walk
chained r q [] next = λ linked. tt
chained r q (c ∷ cs) next =
    let first : Follows r (round q c.page) = next c.page in
    by_way (λ w. Linked w.rounds → Chained r w.rounds) q c cs (λ p _ l. (first, l)) (λ _ _ l. (first, l)) (λ id _ l. (first, l))

pub starts_follow : StartsFollow
unfolding walk
starts_follow q [] = tt
starts_follow q (c ∷ cs) =
    by_way (λ w. Linked w.rounds) q c cs (λ p _. tt) (λ _ _. tt)
    (λ id l. let next : Request = next_request q id c.next in
    chained (round q c.page) next cs
    (λ s. record { id = id; led = l; pages = c.next; next = refl; start = start_next q c.page id c.next l })
    (starts_follow next cs))

-- ## The last

-- a page that the reader takes
abbrev pub Reads : Round → Type 0
Reads r = accepted r.page r.request ≡ true

pub last_more : (P : Round → Type 0) (r : Round) (rs : List Round) → Last P rs → Last P (r ∷ rs)
last_more P r [] last = absurd last
last_more P r (t ∷ ts) last = last

tag : Stand → ℕ
tag ended = 0
tag (stopped p) = 1
tag waits = 2

pub ends_last : EndsLast
unfolding walk tag
ends_last q [] = λ e. absurd (let no : ◌≡◌ {A = ℕ} 2 0 = ap tag e in omega arith)
ends_last q (c ∷ cs) =
    by_way (λ w. w.stand ≡ ended → Every Reads w.rounds × Last (λ (r : Round). Ends r.page) w.rounds) q c cs
    (λ p _ e. absurd (let no : ◌≡◌ {A = ℕ} 1 0 = ap tag e in omega arith))
    (λ ok end _. ((ok, tt), end))
    (λ id l e.
    let next : Request = next_request q id c.next in
    let (reads, last) = ends_last next cs e in
    ((l.taken, reads), last_more (λ (r : Round). Ends r.page) (round q c.page) (walk next cs).rounds last))

-- ## How many

module _ (M : ℕ → ℕ) where
  -- where its page leads on, 15 of what is measured are behind, and some is ahead
  abbrev pub Falls : Round → Type 0
  Falls r = (id : ElementId) → Leads r.page r.request id → (1 ≤ M id.0) × (15 + M id.0 ≤ M (start_of r.request))

  pub bounded : (q : Request) (cs : List Came) (m : ℕ) → 1 ≤ m → M (start_of q) ≤ m → Every Falls (walk q cs).rounds → 15 * length (walk q cs).rounds ≤ 14 + m
  unfolding walk
  bounded q [] m some less = λ falls. omega arith
  bounded q (c ∷ cs) m some less =
      by_way (λ w. Every Falls w.rounds → 15 * length w.rounds ≤ 14 + m) q c cs (λ p _ falls. omega arith) (λ _ _ falls. omega arith)
      (λ id l (fall, falls).
      let next : Request = next_request q id c.next in
      let same : start_of next ≡ id.0 = start_next q c.page id c.next l in
      let rest : 15 * length (walk next cs).rounds ≤ 14 + M id.0 = bounded next cs (M id.0) (fall id l).0 (omega (arith, ap M same)) falls in
      omega (arith, (fall id l).1, less, rest))

  -- with pages for all that is measured, each of them taken, it ends
  pub ends : (q : Request) (cs : List Came) (m : ℕ) → 1 ≤ m → M (start_of q) ≤ m → m ≤ 15 * length cs
      → Every Falls (walk q cs).rounds → Every Reads (walk q cs).rounds → (walk q cs).stand ≡ ended
  unfolding walk
  ends q [] m some less few = absurd (omega arith)
  ends q (c ∷ cs) m some less few =
      by_way (λ w. Every Falls w.rounds → Every Reads w.rounds → w.stand ≡ ended) q c cs
      (λ p is_9 falls reads. absurd (unstopped c.page q p reads.0 is_9))
      (λ _ _ falls reads. refl)
      (λ id l (fall, falls) (read, reads).
      let next : Request = next_request q id c.next in
      let same : start_of next ≡ id.0 = start_next q c.page id c.next l in
      ends next cs (M id.0) (fall id l).0 (omega (arith, ap M same)) (omega (arith, (fall id l).1, less, few)) falls reads)

-- ## Of any pages: the identifiers from a start on

left : ℕ → ℕ
left zero = 0xFFFF_FFFF
left (suc n) = 0xFFFF_FFFF - n

left_lower : (id start : ℕ) → 16 ≤ id → start + 15 ≤ id → id ≤ 0xFFFF_FFFF → (1 ≤ left id) × (15 + left id ≤ left start)
unfolding left
left_lower zero start some up low = absurd (omega arith)
left_lower (suc n) zero some up low = (omega arith, omega arith)
left_lower (suc n) (suc k) some up low = (omega arith, omega arith)

left_most : (start : ℕ) → left start ≤ 0xFFFF_FFFF
unfolding left
left_most zero = omega arith
left_most (suc n) = omega arith

-- of n descriptors the last has an identifier from n on, and as many from the start on
module _ (s : List ℕ) (q : Request) (page : Taken Little s q) where
  climbs : (n : ℕ) → suc n ≤ (header_in Little s).returned → (suc n ≤ last_before Little s (suc n)) × (start_of q + n ≤ last_before Little s (suc n))
  climbs zero less = let d = page.list 0 less in (d.some, omega (arith, d.started))
  climbs (suc n) less =
      let below = climbs n (omega (arith, less)) in
      let d = page.list (suc n) less in
      (omega (arith, below.0, d.rises), omega (arith, below.1, d.rises))

  climbs_to : (n : ℕ) → n ≡ (header_in Little s).returned → 15 ≤ n → (15 ≤ last_before Little s n) × (start_of q + 14 ≤ last_before Little s n)
  climbs_to zero e some = absurd (omega arith)
  climbs_to (suc n) e some = let up = climbs n (omega (arith, e)) in (omega (arith, up.0, some), omega (arith, up.1, some))

pub start_climbs : (s : List ℕ) (q : Request) (id : ElementId) → Leads s q id → (16 ≤ id.0) × (start_of q + 15 ≤ id.0)
start_climbs s q id l =
    let up = climbs_to s q (page_taken s q l.taken) (header_in Little s).returned refl l.some in
    let is_id = led_last s q id l in
    (omega (arith, is_id, up.0), omega (arith, is_id, up.1))

left_falls : (rs : List Round) → Every (Falls left) rs
left_falls [] = tt
left_falls (r ∷ rs) =
    (λ id l. let up = start_climbs r.page r.request id l in left_lower id.0 (start_of r.request) up.0 up.1 l.low, left_falls rs)

pub always_stops : AlwaysStops
always_stops q cs = omega (arith, bounded left q cs 0xFFFF_FFFF (omega arith) (left_most (start_of q)) (left_falls (walk q cs).rounds))
