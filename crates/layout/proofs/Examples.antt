-- The layout's definitions, tried: G1's descriptor in both orders.
use mathlib.Core.List.{[], ◌∷◌}
use mathlib.Core.Path.{◌≡◌, refl}
use Rattle.words.specs.declared.Order.TheVariants.{Little, Big}
use Rattle.layout.specs.Bytes.{descriptor_bytes}
use Rattle.layout.specs.Examples.{element_g1}

-- "its bytes 4..7 are 03 00 01 00, 16..17 are F4 01"
little_tried : descriptor_bytes Little element_g1
    ≡ 0 ∷ 0 ∷ 0 ∷ 0 ∷ 0x03 ∷ 0x00 ∷ 0x01 ∷ 0x00 ∷ 0 ∷ 0 ∷ 0 ∷ 0 ∷ 0 ∷ 0 ∷ 0x01 ∷ 0x70
    ∷ 0xF4 ∷ 0x01 ∷ 0 ∷ 0 ∷ 0 ∷ 0 ∷ 0 ∷ 0 ∷ 0 ∷ 0 ∷ 0 ∷ 0 ∷ 0 ∷ 0 ∷ 0 ∷ 0 ∷ []
little_tried = refl

big_tried : descriptor_bytes Big element_g1
    ≡ 0 ∷ 0 ∷ 0 ∷ 0 ∷ 0x00 ∷ 0x01 ∷ 0x00 ∷ 0x03 ∷ 0 ∷ 0 ∷ 0 ∷ 0 ∷ 0 ∷ 0 ∷ 0x01 ∷ 0x70
    ∷ 0 ∷ 0 ∷ 0 ∷ 0 ∷ 0 ∷ 0 ∷ 0x01 ∷ 0xF4 ∷ 0 ∷ 0 ∷ 0 ∷ 0 ∷ 0 ∷ 0 ∷ 0 ∷ 0 ∷ []
big_tried = refl
