-- Document 01's example G1: the header's numbers, the element, and the page, byte for byte.
use Rattle.std.specs.Prelude.{ℕ, false, List, ◌∷◌, ◌++◌, replicate}
use Rattle.layout.specs.declared.Descriptor.{Descriptor}
use Rattle.layout.specs.declared.Header.{Header}

abbrev pub zeros : ℕ → List ℕ
zeros n = replicate n 0

abbrev pub header_g1 : Header
header_g1 = record { number = 1; returned = 1; busy = record { 0 = 0 }; limit = 2; removed = 0 }

abbrev pub element_g1 : Descriptor
element_g1 = record { id = record { 0 = 0x0001_0003 }; restorable = false; kind = 1; health = 0x70; capacity = 500 }

-- "one descriptor, 0001_0003h; its bytes 4..7 are 03 00 01 00, 16..17 are F4 01": the header and the descriptor, and the page
abbrev pub front_g1 : List ℕ
front_g1 = (1 ∷ zeros 3) ++ (1 ∷ zeros 7) ++ (2 ∷ zeros 23) ++ (0x03 ∷ 0x00 ∷ 0x01 ∷ 0x00 ∷ zeros 6) ++ (0x01 ∷ 0x70 ∷ 0xF4 ∷ 0x01 ∷ zeros 14)

abbrev pub page_g1 : List ℕ
page_g1 = front_g1 ++ zeros 448
