-- The definitions tried: pages of 15 elements, whole and cut short, the highest identifiers, and a walk of two pages.
use Prim.Native.Nat.{ℕ, ◌+◌}
use mathlib.Core.List.{List, [], ◌∷◌, ◌++◌, map}
use mathlib.Core.Path.{◌≡◌, refl}
use lib.ListN.{set}
use Rattle.layout.specs.Examples.{zeros, page_g1}
use Rattle.layout.specs.declared.Descriptor.{Descriptor}
use Rattle.paper.specs.Told.{tells}
use Rattle.reach.specs.Opening.{accepted}
use Rattle.reach.specs.Pages.{reach_of}
use Rattle.request.specs.Requests.{start_of, refused, takes_health}
use Rattle.request.specs.declared.Request.{Request}
use Rattle.slices.specs.Lists.{up_to, flat}
use Rattle.walk.specs.Next.{ask, end, place, next_of}
use Rattle.walk.specs.Walk.{Came, Round, ended, stopped, waits, Walked, walk, elements_in, listed}

abbrev request : ℕ → ℕ → ℕ → Request
request feature count lba = record { feature = feature; count = record { 0 = count }; lba = record { 0 = lba } }

-- a header, and the elements above a number, storage, health 10h
abbrev page : ℕ → ℕ → ℕ → List ℕ
page number returned above =
    (number ∷ zeros 3) ++ (returned ∷ zeros 27) ++ flat (λ (k : ℕ). zeros 4 ++ ((above + k + 1) ∷ zeros 9) ++ (1 ∷ 0x10 ∷ zeros 16)) (up_to returned)

-- the last identifier of 15 is FFFF_FFxxh
abbrev high : ℕ → List ℕ
high low = set (set (set (set (page 16 15 0) 484 low) 485 0xFF) 486 0xFF) 487 0xFF

-- whole, and cut short; a full page that is whole; the highest but one, and the highest, of which the page lies
pub pages : (next_of (zeros 512) (request 0 1 0) ≡ tells 0 end)
    × (next_of page_g1 (request 0x4100 1 0) ≡ tells 0 end)
    × (next_of (page 15 15 0) (request 0 1 0) ≡ tells 0 end)
    × (next_of (page 16 15 0) (request 0 1 0) ≡ tells 0 (ask (record { 0 = 16 })))
    × (next_of (high 0xFE) (request 0 1 0) ≡ tells 0 (ask (record { 0 = 0xFFFF_FFFF })))
    × (next_of (high 0xFF) (request 0 1 0) ≡ tells 0 end)
unfolding next_of reach_of refused takes_health
pages = (refl, refl, refl, refl, refl, refl)

-- as the reader has it: two requests that are due 4, N above returned without a descriptor, a start above the first identifier
pub refusals : (next_of page_g1 (request 0x8000 1 0) ≡ tells 9 (place 0))
    × (next_of page_g1 (request 0x4100 1 0x1_0000_0000) ≡ tells 9 (place 0))
    × (next_of (1 ∷ zeros 511) (request 0 1 0) ≡ tells 9 (place 4))
    × (next_of (page 16 15 0) (request 0 1 2) ≡ tells 9 (place 36))
unfolding next_of reach_of refused takes_health
refusals = (refl, refl, refl, refl)

-- ## Sixteen elements by pages of one

abbrev came : List ℕ → Came
came s = record { page = s; next = record { 0 = 1 } }

abbrev starts : Walked → List ℕ
starts w = map (λ (r : Round). start_of r.request) w.rounds

abbrev ids : Walked → List ℕ
ids w = map (λ (x : Descriptor). x.id.0) (listed w)

-- whole; a page that comes after the end is not looked at
pub walks : let w = walk (request 0 1 1) (came (page 16 15 0) ∷ came (page 1 1 15 ++ zeros 448) ∷ came [] ∷ []) in
    (w.stand ≡ ended) × (starts w ≡ 1 ∷ 16 ∷ []) × (ids w ≡ map (λ (k : ℕ). k + 1) (up_to 16))
unfolding walk elements_in accepted next_of reach_of refused takes_health
walks = (refl, refl, refl)

-- a second page that is the first again is refused, and not listed; and none
pub breaks : let w = walk (request 0 1 1) (came (page 16 15 0) ∷ came (page 16 15 0) ∷ []) in (w.stand ≡ stopped 36) × (ids w ≡ map (λ (k : ℕ). k + 1) (up_to 15))
unfolding walk elements_in accepted next_of reach_of refused takes_health
breaks = (refl, refl)

pub waiting : let w = walk (request 0 1 1) (came (page 16 15 0) ∷ []) in (w.stand ≡ waits) × (ids w ≡ map (λ (k : ℕ). k + 1) (up_to 15))
unfolding walk elements_in accepted next_of reach_of refused takes_health
waiting = (refl, refl)
