-- The reading of document 01's page G1, and of pages and SCSI data at the edges, computed from the definitions.
use Prim.Native.Nat.{ℕ}
use mathlib.Core.Bool.{true}
use mathlib.Core.List.{List, [], ◌∷◌, ◌++◌}
use mathlib.Core.Path.{◌≡◌, refl}
use Rattle.layout.specs.Bytes.{all_ones}
use Rattle.layout.specs.Examples.{zeros, page_g1}
use Rattle.query.specs.Queries.{due_four}
use Rattle.request.specs.Requests.{refused, takes_health}
use Rattle.request.specs.declared.Request.{Request}
use Rattle.text.specs.Text.{ascii}
use Rattle.contents.specs.Contents.{held_line, reading_of}
use Rattle.contents.specs.DockContents.{scsi_reading_of}

-- `read FEATURE 1 0`
abbrev asked : ℕ → Request
asked feature = record { feature = feature; count = record { 0 = 1 }; lba = record { 0 = 0 } }

pub G1 : reading_of page_g1 (asked 0x4100) ≡ ascii "0\nnumber 1 returned 1 busy 00000000 limit 2 removed 0\n00010003 0 01 70 500\n"
unfolding reading_of refused takes_health
G1 = refl

pub restorable : held_line (record { id = record { 0 = 0xFFFF_FFFF }; restorable = true; kind = 0xAB; health = 0xFF; capacity = all_ones })
    ≡ ascii "FFFFFFFF 1 AB FF -\n"
restorable = refl

-- no page, a request that is due 4, N at 1 with nothing returned, and a last byte that is not 0
pub refusals : (reading_of [] (asked 0) ≡ ascii "9 at 0\n") × (reading_of page_g1 (asked 0x8000) ≡ ascii "9 at 0\n")
    × (reading_of (1 ∷ zeros 511) (asked 0) ≡ ascii "9 at 4\n") × (reading_of (zeros 511 ++ (1 ∷ [])) (asked 0) ≡ ascii "9 at 511\n")
unfolding reading_of refused takes_health
refusals = (refl, refl, refl, refl)

-- ## SCSI data

-- `scsiread 0 0 0`
abbrev plain : List ℕ → List ℕ
plain s = scsi_reading_of s (record { filter = 0; report = 0; start = record { 0 = 0 } })

-- a header of one element: big-endian, and returned is N whether its descriptor is there or not
abbrev one : List ℕ
one = 0 ∷ 0 ∷ 0 ∷ 1 ∷ 0 ∷ 0 ∷ 0 ∷ 1 ∷ 0 ∷ 0 ∷ 0 ∷ 0 ∷ 0 ∷ 2 ∷ zeros 18

abbrev storage : List ℕ
storage = 0 ∷ 0 ∷ 0 ∷ 0 ∷ 0 ∷ 1 ∷ 0 ∷ 3 ∷ (zeros 6 ++ (1 ∷ 0x70 ∷ 0 ∷ 0 ∷ 0 ∷ 0 ∷ 0 ∷ 0 ∷ 1 ∷ 0xF4 ∷ zeros 8))

-- whole, cut clean, cut through, and a byte past the list
pub dock : (plain (one ++ storage) ≡ ascii "0\nnumber 1 returned 1 busy 00000000 limit 2 removed 0\n00010003 0 01 70 500\n")
    × (plain one ≡ ascii "0\nnumber 1 returned 1 busy 00000000 limit 2 removed 0\ncut 0 of 1\n")
    × (plain (one ++ zeros 31) ≡ ascii "0\nnumber 1 returned 1 busy 00000000 limit 2 removed 0\ntorn 0 of 1\n")
    × (plain (one ++ storage ++ zeros 1) ≡ ascii "9 at 64\n")
unfolding scsi_reading_of due_four refused takes_health
dock = (refl, refl, refl, refl)
