-- The walk from a cursor: both pages side by side, past what agrees to the next difference. The older page is s, the newer t.
use Rattle.std.specs.Prelude.{ℕ, zero, suc, ◌+◌, ◌-◌, min, Bool, cond, ◌&&◌, List, [], ◌∷◌, eqb, leb, ltb, Option, Some, None}
use Rattle.paper.specs.declared.ElementId.{ElementId}
use Rattle.reach.specs.Pages.{count_of, element_at, bound_of, end_of}
use Rattle.compare.specs.Differences.{alike}
use Rattle.compare.specs.declared.Cursor.{Cursor}
use Rattle.compare.specs.declared.Frame.{Frame}
use Rattle.compare.specs.declared.Hit.{Hit}
use Rattle.compare.specs.declared.Line.TheVariants.{OnlyOlder, OnlyNewer, Changed}
use Rattle.compare.specs.declared.Line.{Line}

abbrev pub cursor : ℕ → ℕ → Cursor
cursor i j = record { older = i; newer = j }

abbrev pub first : Cursor
first = cursor 0 0

-- ## At a cursor

-- where a walk over the pages ends: past their last descriptors, and at the last identifier that is compared
abbrev pub frame_of : List ℕ → List ℕ → Frame
frame_of s t = record { last = cursor (count_of s) (count_of t); end = end_of (bound_of s t) }

-- the key of a place, of a page with so many descriptors: the identifier's number there; where the page has none, one above the end, which no
-- identifier may be
unfoldable pub key_at : List ℕ → ℕ → ℕ → ElementId → ℕ
key_at s count k end = cond (ltb k count) (element_at s k).id.0 (end.0 + 1)

-- one element stands there in both pages, not above the end, and unchanged
unfoldable pub agree_at : List ℕ → List ℕ → Frame → Cursor → Bool
agree_at s t f c =
    let a = key_at s f.last.older c.older f.end in
    eqb a (key_at t f.last.newer c.newer f.end)
    && (leb a f.end.0 && alike (element_at s c.older) (element_at t c.newer))

abbrev pub found : Line → ℕ → ℕ → Hit
found l i j = record { line = l; next = cursor i j }

-- the difference there, where the older's key is a, the newer's b
abbrev pub found_by : ℕ → ℕ → Cursor → Hit
found_by a b c =
    let i = c.older in
    let j = c.newer in
    cond (ltb a b) (found (OnlyOlder i) (i + 1) j)
    (cond (ltb b a) (found (OnlyNewer j) i (j + 1))
    (found (Changed c) (i + 1) (j + 1)))

-- what stands there, where they do not agree; none, and the walk is done, where both keys are above the end
unfoldable pub step_at : List ℕ → List ℕ → Frame → Cursor → Option Hit
step_at s t f c =
    let a = key_at s f.last.older c.older f.end in
    let b = key_at t f.last.newer c.newer f.end in
    cond (ltb f.end.0 (min a b)) None (Some (found_by a b c))

-- ## From a cursor on

-- past what agrees, at most n elements
unfoldable pub past : List ℕ → List ℕ → Frame → ℕ → Cursor → Cursor
past s t f zero c = c
past s t f (suc n) c = cond (agree_at s t f c) (past s t f n (cursor (c.older + 1) (c.newer + 1))) c

-- in a frame
unfoldable pub next_to : List ℕ → List ℕ → Frame → Cursor → Option Hit
next_to s t f c = step_at s t f (past s t f (f.last.older - c.older) c)

unfoldable pub next_of : List ℕ → List ℕ → Cursor → Option Hit
next_of s t c = next_to s t (frame_of s t) c

-- ## The whole walk

-- how many descriptors lie ahead
abbrev pub ahead : List ℕ → List ℕ → Cursor → ℕ
ahead s t c = (count_of s - c.older) + (count_of t - c.newer)

abbrev pub after : Option Hit → (Cursor → List Line) → List Line
after None rest = []
after (Some d) rest = d.line ∷ rest d.next

-- at most n lines; as many as lie ahead are enough (Promises, `WalkEnds`)
unfoldable pub walk : List ℕ → List ℕ → ℕ → Cursor → List Line
walk s t zero c = []
walk s t (suc n) c = after (next_of s t c) (walk s t n)

unfoldable pub walk_from : List ℕ → List ℕ → Cursor → List Line
walk_from s t c = walk s t (ahead s t c) c
