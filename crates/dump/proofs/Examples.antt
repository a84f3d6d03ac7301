-- Pages and data at their edges, and touched bytes, computed from the definitions.
use mathlib.Core.List.{[], ◌∷◌, ◌++◌}
use mathlib.Core.Path.{◌≡◌, refl}
use lib.ListN.{replicate}
use Rattle.text.specs.Text.{ascii}
use Rattle.dump.specs.Dump.{rows_below, rows_shown, page_text, data_text, touched_text}

-- no row, rows of zeros alone, a row before them, and a last byte that is not 0
pub pages : (page_text [] ≡ []) × (page_text (replicate 64 0) ≡ ascii "zeros 2\n")
    × (page_text (0xFE ∷ replicate 63 0) ≡ ascii "FE00000000000000000000000000000000000000000000000000000000000000\nzeros 1\n")
    × (page_text (replicate 31 0 ++ (0x0A ∷ [])) ≡ ascii "000000000000000000000000000000000000000000000000000000000000000A\n")
unfolding page_text rows_below rows_shown
pages = (refl, refl, refl, refl)

-- no byte, a row of zeros, and a last row of one byte
pub bytes : (data_text [] ≡ ascii "bytes 0\n")
    × (data_text (replicate 32 0) ≡ ascii "bytes 32\n0000000000000000000000000000000000000000000000000000000000000000\n")
    × (data_text (replicate 32 0 ++ (0xC3 ∷ [])) ≡ ascii "bytes 33\n0000000000000000000000000000000000000000000000000000000000000000\nC3\n")
unfolding data_text rows_below
bytes = (refl, refl, refl)

pub touched : (touched_text (replicate 3 0xA5) 1 ≡ []) × (touched_text (0 ∷ 0xA5 ∷ 0x5A ∷ 0 ∷ []) 1 ≡ ascii "touched 2\n") × (touched_text (0 ∷ []) 1 ≡ [])
unfolding touched_text
touched = (refl, refl, refl)
