-- What holds of every comparison. Each is a statement; proofs/ has the proof under the same name in lower case.
use Rattle.std.specs.Prelude.{ℕ, ◌<◌, true, List, [], ◌∷◌, map, ◌≡◌}
use Rattle.paper.specs.declared.ElementId.{ElementId}
use Rattle.reach.specs.Opening.{accepted}
use Rattle.reach.specs.Pages.{count_of, element_at}
use Rattle.reader.specs.Reserved.{LooksAlike}
use Rattle.request.specs.declared.Request.{Request}
use Rattle.words.specs.declared.Order.TheVariants.{Little}
use Rattle.compare.specs.Differences.{absent, stands, standing, differences_of}
use Rattle.compare.specs.Walk.{first, next_of, after, walk_from}
use Rattle.compare.specs.declared.Cursor.{Cursor}
use Rattle.compare.specs.declared.Line.TheVariants.{OnlyOlder, OnlyNewer, Changed}
use Rattle.compare.specs.declared.Line.{Line}

-- ## The differences

-- a descriptor that stands for an identifier has it; of one that is absent there is none
abbrev pub StandsFor : Type 0
StandsFor =
    (s : List ℕ) (id : ElementId) (k : ℕ)
    → (standing s id ≡ stands k → (k < count_of s) × ((element_at s k).id ≡ id))
    × (standing s id ≡ absent → k < count_of s → (element_at s k).id ≡ id → ⊥)

-- the identifier that a line speaks of
abbrev pub id_of : List ℕ → List ℕ → Line → ElementId
id_of s t (OnlyOlder k) = (element_at s k).id
id_of s t (OnlyNewer k) = (element_at t k).id
id_of s t (Changed c) = (element_at t c.newer).id

-- the first is above `low`, and each above the one before
abbrev pub Ascending : ℕ → List ElementId → Type 0
Ascending low [] = Unit {0}
Ascending low (x ∷ xs) = (low < x.0) × Ascending x.0 xs

-- "Each difference appears once", "by ascending identifier"
abbrev pub EachOnce : Type 0
EachOnce = (s t : List ℕ) → Ascending 0 (map (id_of s t) (differences_of s t))

-- ## The walk

-- it is what comes next, and the walk from there: it ends where nothing is next, and not because its lines are counted
abbrev pub WalkEnds : Type 0
WalkEnds = (s t : List ℕ) (c : Cursor) → walk_from s t c ≡ after (next_of s t c) (walk_from s t)

-- over two accepted pages it gives exactly the differences
abbrev pub WalkGives : Type 0
WalkGives = (s t : List ℕ) (q : Request) → accepted s q ≡ true → accepted t q ≡ true → walk_from s t first ≡ differences_of s t

-- ## "Reserved bytes are not looked at"

-- pages that look alike are compared alike; s and t look like s' and t'
abbrev pub ReservedUncompared : Type 0
ReservedUncompared =
    (s s' t t' : List ℕ) → LooksAlike Little s s' → LooksAlike Little t t'
    → (differences_of s t ≡ differences_of s' t') × ((c : Cursor) → next_of s t c ≡ next_of s' t' c)
