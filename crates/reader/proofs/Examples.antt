-- The definitions tried: G1's page is read, and each offence is found at its place, the first before the others.
use Prim.Native.Nat.{ℕ}
use mathlib.Core.Bool.{Bool, true, false, ◌&&◌}
use mathlib.Core.List.{List, [], ◌∷◌, ◌++◌}
use mathlib.Core.Path.{◌≡◌, refl}
use lib.Dec.{eqb}
use lib.ListN.{get_or, set, take, drop, replicate}
use Rattle.std.proofs.Common.{None, Some}
use Rattle.layout.specs.Examples.{zeros, header_g1, element_g1, front_g1, page_g1}
use Rattle.layout.specs.Reserved.{in_header, in_descriptor}
use Rattle.paper.specs.Told.{tells}
use Rattle.request.specs.Requests.{refused, takes_health}
use Rattle.request.specs.declared.Request.{Request}
use Rattle.slices.specs.Lists.{all, up_to}
use Rattle.words.specs.declared.Order.TheVariants.{Little, Big}
use Rattle.reader.specs.Judgement.{Values, header, place, read_of, slot_of}

abbrev request : ℕ → ℕ → ℕ → Request
request feature count lba = record { feature = feature; count = record { 0 = count }; lba = record { 0 = lba } }

G1Read : read_of Little page_g1 (request 0x4100 1 0) ≡ tells 0 (header header_g1)
unfolding refused takes_health
G1Read = refl

G1Slots : (slot_of Little page_g1 0 ≡ Some element_g1) × (slot_of Little page_g1 1 ≡ None)
G1Slots = (refl, refl)

-- ## A byte or two changed, or another request

abbrev is_at : ℕ → Values → Bool
is_at p (header h) = false
is_at p (place r) = eqb p r

-- refused at the place, for a request
abbrev refused_for : Request → ℕ → List ℕ → Bool
refused_for q p s = is_at p (read_of Little s q).state

-- for G1's
abbrev refused_at : ℕ → List ℕ → Bool
refused_at p s = refused_for (request 0x4100 1 0) p s

tried : all (λ (b : Bool). b)
    -- a request due 4, a length that is not 512p, a returned number that is not the smaller
    (refused_for (request 0x8000 1 0) 0 page_g1
    ∷ refused_for (request 0x4100 0 0) 0 page_g1
    ∷ refused_for (request 0x4101 1 0) 0 page_g1
    ∷ refused_for (request 0x4100 1 0x1_0000_0000) 0 page_g1
    ∷ refused_for (request 0x4100 2 0) 0 page_g1
    ∷ refused_at 0 (take 511 page_g1)
    ∷ refused_at 4 (set page_g1 4 0)
    ∷ refused_at 4 (set page_g1 0 2)
    -- identifier 0 and below the start; the bit unearned; type and health
    ∷ refused_at 36 (set (set page_g1 36 0) 38 0)
    ∷ refused_for (request 0x4100 1 0x0001_0004) 36 page_g1
    ∷ refused_at 45 (set page_g1 45 1)
    ∷ refused_at 46 (set page_g1 46 2)
    ∷ refused_at 47 (set page_g1 47 0x64)
    -- the first of several
    ∷ refused_at 45 (set (set (set page_g1 45 1) 46 2) 511 7)
    ∷ refused_at 47 (set (set page_g1 47 0) 64 9)
    -- in the other order N is 0100_0000h
    ∷ is_at 4 (read_of Big page_g1 (request 0x4100 1 0)).state
    ∷ []) ≡ true
unfolding refused takes_health
tried = refl

-- ## Read to the last byte

-- padding is looked at
padding : (read_of Little (front_g1 ++ zeros 447 ++ (7 ∷ [])) (request 0x4100 1 0)).state ≡ place 511
unfolding refused takes_health
padding = refl

-- ## "Reserved bytes are not looked at"

abbrev ones : ℕ → List ℕ
ones n = replicate n 0xFF

-- G1's page with each reserved byte FFh, and each reserved bit of byte 13 set
abbrev wild : List ℕ
wild = take 16 front_g1 ++ ones 20 ++ take 4 (drop 36 front_g1) ++ ones 5 ++ (0xFE ∷ take 10 (drop 46 front_g1)) ++ ones 8 ++ zeros 448

reserved : (read_of Little wild (request 0x4100 1 0) ≡ tells 0 (header header_g1)) × (slot_of Little wild 0 ≡ Some element_g1)
unfolding refused takes_health
reserved = (refl, refl)

-- it looks like G1's page: header and descriptor are alike
wild_alike : all (λ at. eqb (in_header at (get_or wild at 0)) (in_header at (get_or page_g1 at 0))) (up_to 32)
    && all (λ at. eqb (in_descriptor at (get_or (drop 32 wild) at 0)) (in_descriptor at (get_or (drop 32 page_g1) at 0))) (up_to 32)
    ≡ true
wild_alike = refl
