-- On an ascending list the search finds exactly the members. Each is a statement; proofs/ has the proof under the same name in lower case.
use Rattle.std.specs.Prelude.{ℕ, ◌<◌, true, List, ◌≡◌, length, get_or}
use Rattle.table.specs.Elements.{ascending}
use Rattle.table.specs.Search.{place, hits}

-- a hit is there, where the search stops
abbrev pub HitsThere : Type 0
HitsThere = (id : ℕ) (ids : List ℕ) → hits id ids ≡ true → (place id ids < length ids) × (get_or ids (place id ids) 0 ≡ id)

-- and on an ascending list each is found, at its place
abbrev pub HitsMember : Type 0
HitsMember =
    (low : ℕ) (ids : List ℕ) (i : ℕ) → ascending low ids ≡ true → i < length ids → (hits (get_or ids i 0) ids ≡ true) × (place (get_or ids i 0) ids ≡ i)
