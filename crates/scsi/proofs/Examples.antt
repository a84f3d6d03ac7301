-- The definitions tried: G1's element as SCSI data is read, whole and cut at several bytes, and each offence is found at its place.
use Prim.Native.Nat.{ℕ}
use mathlib.Core.Bool.{Bool, true, false}
use mathlib.Core.List.{List, [], ◌∷◌, ◌++◌}
use mathlib.Core.Path.{◌≡◌, refl}
use lib.Dec.{eqb}
use lib.ListN.{set, take}
use Rattle.std.proofs.Common.{None, Some}
use Rattle.layout.specs.Examples.{zeros, header_g1, element_g1}
use Rattle.paper.specs.Told.{tells}
use Rattle.query.specs.Queries.{due_four}
use Rattle.query.specs.declared.Query.{Query}
use Rattle.request.specs.Requests.{takes_health}
use Rattle.slices.specs.Lists.{all}
use Rattle.words.specs.declared.Order.TheVariants.{Little, Big}
use Rattle.scsi.specs.Judgement.{Values, reading, place, read_of, slot_of}

abbrev request : ℕ → ℕ → ℕ → Query
request filter report start = record { filter = filter; report = report; start = record { 0 = start } }

-- N = 1, returned 1, limit 2; 0001_0003h, type 01h, health 70h, 500 blocks
abbrev whole : List ℕ
whole =
    (0 ∷ 0 ∷ 0 ∷ 1 ∷ 0 ∷ 0 ∷ 0 ∷ 1 ∷ zeros 4) ++ (0 ∷ 2 ∷ zeros 18)
    ++ (zeros 4 ++ (0x00 ∷ 0x01 ∷ 0x00 ∷ 0x03 ∷ zeros 6)) ++ (0x01 ∷ 0x70 ∷ zeros 6) ++ (0x01 ∷ 0xF4 ∷ zeros 8)

read : (read_of Big whole (request 1 1 3) ≡ tells 0 (reading header_g1 1 false)) × (slot_of Big whole 0 ≡ Some element_g1) × (slot_of Big whole 1 ≡ None)
unfolding due_four takes_health
read = (refl, refl, refl)

-- cut after the header, and through the descriptor
cut : (read_of Big (take 32 whole) (request 0 0 0) ≡ tells 0 (reading header_g1 0 false)) × (read_of Big (take 63 whole) (request 0 0 0) ≡ tells 0 (reading header_g1 0 true))
    × (slot_of Big (take 63 whole) 0 ≡ None)
unfolding due_four takes_health
cut = (refl, refl, refl)

abbrev is_at : ℕ → Values → Bool
is_at p (reading h n torn) = false
is_at p (place r) = eqb p r

abbrev refused_for : Query → ℕ → List ℕ → Bool
refused_for q p s = is_at p (read_of Big s q).state

abbrev refused_at : ℕ → List ℕ → Bool
refused_at p s = refused_for (request 1 1 0) p s

tried : all (λ (b : Bool). b)
    -- a length below 32, a request due 4
    (refused_at 0 (take 31 whole)
    ∷ refused_for (request 2 0 0) 0 whole
    ∷ refused_for (request 4 0 0) 0 whole
    ∷ refused_for (request 0 0xFF 0) 0 whole
    -- returned above and below N
    ∷ refused_at 4 (set whole 7 2)
    ∷ refused_at 4 (set whole 3 2)
    -- identifier 0 and below the start; the bit unearned; type and health
    ∷ refused_at 36 (set (set whole 37 0) 39 0)
    ∷ refused_for (request 1 1 0x0001_0004) 36 whole
    ∷ refused_at 45 (set whole 45 1)
    ∷ refused_at 46 (set whole 46 2)
    ∷ refused_at 47 (set whole 47 0x64)
    -- a byte past the list, after the descriptors' offences
    ∷ refused_at 64 (whole ++ (0 ∷ []))
    ∷ refused_at 47 (set whole 47 0 ++ (0 ∷ []))
    -- in the other order N is 0100_0000h
    ∷ is_at 36 (read_of Little (set (set whole 37 0) 39 0) (request 1 1 0)).state
    ∷ []) ≡ true
unfolding due_four takes_health
tried = refl
