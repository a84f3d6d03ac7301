-- The elements of document 01's bench device A.
use Rattle.std.specs.Prelude.{ℕ, false, List, ◌∷◌, replicate}
use Rattle.offer.specs.Elements.{element_of, blank}
use Rattle.offer.specs.declared.Element.{Element}
use Rattle.offer.specs.declared.Offer.{Offer}

-- with its capacity reported
abbrev pub element : ℕ → ℕ → ℕ → ℕ → Element
element id kind health blocks = element_of (record { 0 = id }) kind health false blocks

-- "1 (01h, 20h, 1,000 blocks); 3 (01h, 10h, 1,500); 0001_0003h (01h, 70h, 500); 0002_0000h (02h, 00h, 0)"
abbrev pub elements_a : List Element
elements_a = element 1 1 0x20 1000 ∷ element 3 1 0x10 1500 ∷ element 0x0001_0003 1 0x70 500 ∷ element 0x0002_0000 2 0 0 ∷ replicate 124 blank

abbrev pub offer_a : ℕ → Offer
offer_a limit = record { elements = elements_a; count = 4; limit = limit }
