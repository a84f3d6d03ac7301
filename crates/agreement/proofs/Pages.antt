-- Document 01's examples G1 to G4, G2 as request 2026-05 mends it, the 16 matching elements, and the page's edges: each answer, and the whole
-- buffer afterwards.
use Prim.Native.Nat.{ℕ}
use mathlib.Core.List.{List, [], ◌∷◌, ◌++◌}
use mathlib.Core.Path.{◌≡◌, refl}
use lib.ListN.{replicate, take, drop}
use Rattle.cells.specs.Cells.{is_set}
use Rattle.cells.specs.Sights.{see_in}
use Rattle.device.specs.declared.Device.{Device}
use Rattle.layout.specs.Examples.{zeros, page_g1}
use Rattle.making.specs.Examples.{device_a, run, remove, steps}
use Rattle.making.specs.Making.{fresh}
use Rattle.offer.specs.Elements.{blank}
use Rattle.offer.specs.Examples.{element}
use Rattle.offer.specs.declared.Element.{Element}
use Rattle.paper.specs.Told.{tells}
use Rattle.paper.specs.declared.Security.TheVariants.{Locked, Unlocked}
use Rattle.removal.specs.Remove.{judge_room, judge_found}
use Rattle.request.specs.Requests.{refused, takes_health}
use Rattle.request.specs.declared.Request.{Request}
use Rattle.status.specs.Page.{list_of, page_of, shown}
use Rattle.table.specs.Search.{sight_in}
use Rattle.view.specs.Shown.{shown_of, asks}

abbrev request : ℕ → ℕ → ℕ → Request
request feature count lba = record { feature = feature; count = record { 0 = count }; lba = record { 0 = lba } }

-- what was in the buffer
abbrev old : ℕ → List ℕ
old n = replicate n 0xA5

-- a header of small numbers, and a descriptor of G1's element
abbrev header : ℕ → ℕ → List ℕ → ℕ → List ℕ
header number returned busy removed = (number ∷ zeros 3) ++ (returned ∷ zeros 3) ++ busy ++ (2 ∷ 0 ∷ removed ∷ zeros 17)

abbrev descriptor : ℕ → List ℕ
descriptor health = zeros 4 ++ (0x03 ∷ 0x00 ∷ 0x01 ∷ 0x00 ∷ zeros 6) ++ (0x01 ∷ health ∷ 0xF4 ∷ 0x01 ∷ zeros 14)

-- five bytes more than a page are lent, and stay
pub G1 : shown device_a Unlocked (request 0x4100 1 0) (old 517) ≡ tells 0 (page_g1 ++ old 5)
unfolding shown_of asks list_of page_of refused takes_health
G1 = refl

pub G2 : shown device_a Unlocked (request 0x4100 1 0x1_0000_0000) (old 512) ≡ tells 4 (old 512)
unfolding refused
G2 = refl

pub G3 : shown device_a Unlocked (request 0x4100 0 0) (old 512) ≡ tells 4 (old 512)
unfolding refused
G3 = refl

pub G4 : shown device_a Unlocked (request 0x8000 1 0) (old 512) ≡ tells 4 (old 512)
unfolding refused
G4 = refl

-- the highest start, and bits above LBA 47: N = 0, and only byte 12 (02h) is not 0
empty : shown device_a Unlocked (request 0x4100 1 0xFFFF_0000_FFFF_FFFF) (old 512) ≡ tells 0 (zeros 12 ++ (0x02 ∷ zeros 499))
unfolding shown_of asks list_of page_of refused takes_health
empty = refl

-- a reserved bit comes before the buffer
reserved : shown device_a Unlocked (request 0x4100 1 0x1_0000_0000) (old 511) ≡ tells 4 (old 511)
unfolding refused
reserved = refl

-- a byte short
small : shown device_a Unlocked (request 0x4100 2 0) (old 1023) ≡ tells 7 (old 1023)
unfolding refused
small = refl

-- locked, in a removal and marked, over two pages: the noted element, the removed number, FFh, and zeros to the end
noted : shown (run device_a (remove 1 3 0 ∷ steps 3)) Locked (request 0x4100 2 3) (old 1025)
    ≡ tells 0 (header 1 1 (0x03 ∷ 0x00 ∷ 0x01 ∷ 0x00 ∷ []) 1 ++ descriptor 0xFF ++ zeros 960 ++ old 1)
unfolding shown_of asks list_of page_of refused takes_health sight_in see_in is_set judge_room judge_found
noted = refl

-- "16 matching elements, one page: N = 16, returned 15"; the last has identifier 15
abbrev sixteen : Device
sixteen =
    let e : ℕ → Element = λ n. element n 1 0x70 100 in
    fresh (record {
      elements = e 1 ∷ e 2 ∷ e 3 ∷ e 4 ∷ e 5 ∷ e 6 ∷ e 7 ∷ e 8 ∷ e 9 ∷ e 10 ∷ e 11 ∷ e 12 ∷ e 13 ∷ e 14 ∷ e 15 ∷ e 16 ∷ replicate 112 blank;
      count = 16;
      limit = 2;
    })

abbrev page : List ℕ
page = (shown sixteen Unlocked (request 0x4100 1 0) (old 512)).state

cut : (take 16 page ≡ (16 ∷ zeros 3) ++ (15 ∷ zeros 7) ++ (2 ∷ zeros 3)) × (drop 480 page ≡ zeros 4 ++ (15 ∷ zeros 9) ++ (0x01 ∷ 0x70 ∷ 100 ∷ zeros 15))
unfolding shown_of asks list_of page_of refused takes_health
cut = (refl, refl)
