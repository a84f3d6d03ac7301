-- The definitions of a request, tried: the requests of G1 to G4 and their neighbours, each reserved bit, and the filter's edges.
use Prim.Native.Nat.{ℕ, ◌+◌, ◌-◌, ◌^◌}
use mathlib.Core.Bool.{Bool, true, not, ◌&&◌}
use mathlib.Core.List.{[], ◌∷◌}
use mathlib.Core.Path.{◌≡◌, refl}
use lib.Dec.{eqb}
use Rattle.slices.specs.Lists.{all, up_to}
use Rattle.request.specs.Requests.{filter_of, report_type_of, start_of, refused, takes_id, takes_type, takes_health}
use Rattle.request.specs.declared.Request.{Request}

abbrev request : ℕ → ℕ → ℕ → Request
request feature count lba = record { feature = feature; count = record { 0 = count }; lba = record { 0 = lba } }

abbrev taken : Request → ℕ → ℕ → ℕ → Bool
taken q filter report start = not (refused q) && (eqb (filter_of q) filter && (eqb (report_type_of q) report && eqb (start_of q) start))

requests_tried : all (λ (b : Bool). b)
    (taken (request 0x4100 1 0) 1 1 0
    ∷ taken (request 0x4100 1 0xFFFF_FFFF) 1 1 0xFFFF_FFFF
    -- what lies above LBA 47 is ignored
    ∷ taken (request 0x0100 65535 (2 ^ 48 + 5)) 0 1 5
    ∷ taken (request 0x4000 1 (2 ^ 64 - 2 ^ 48)) 1 0 0
    ∷ refused (request 0x4100 0 0)
    ∷ refused (request 0x8000 1 0)
    ∷ refused (request 0xC000 1 0)
    ∷ refused (request 0x0200 1 0)
    ∷ refused (request 0x0F00 1 0)
    -- G2, the laptop's start, and each reserved bit alone
    ∷ refused (request 0x4100 1 0x1_0000_0000)
    ∷ refused (request 0 1 0x1_0000_0003)
    ∷ all (λ (bit : ℕ). refused (request (0x4100 + 2 ^ bit) 1 0)) (12 ∷ 13 ∷ up_to 8)
    ∷ all (λ (bit : ℕ). refused (request 0x4100 1 (2 ^ (32 + bit)))) (up_to 16)
    ∷ takes_id (request 0 1 3) 3
    ∷ not (takes_id (request 0 1 4) 3)
    ∷ []) ≡ true
unfolding refused
requests_tried = refl

tests_tried : all (λ (b : Bool). b)
    (takes_type 1 1
    ∷ not (takes_type 1 0)
    ∷ not (takes_type 1 2)
    ∷ takes_type 0 2
    ∷ all (takes_health 0) (0x00 ∷ 0x64 ∷ 0xD0 ∷ 0xFE ∷ 0xFF ∷ [])
    ∷ all (takes_health 1) (0x65 ∷ 0xCF ∷ 0xFF ∷ [])
    ∷ all (λ (h : ℕ). not (takes_health 1 h)) (0x00 ∷ 0x64 ∷ 0xD0 ∷ 0xFE ∷ [])
    ∷ []) ≡ true
unfolding takes_health
tests_tried = refl
