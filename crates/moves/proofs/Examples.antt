-- The line of `next` of small pages, computed from the definitions.
use Prim.Native.Nat.{ℕ, suc}
use mathlib.Core.List.{List, [], ◌∷◌, ◌++◌}
use mathlib.Core.Path.{◌≡◌, refl}
use Rattle.layout.specs.Examples.{zeros, page_g1}
use Rattle.reach.specs.Pages.{reach_of}
use Rattle.request.specs.Requests.{refused, takes_health}
use Rattle.slices.specs.Lists.{up_to, flat}
use Rattle.text.specs.Text.{ascii}
use Rattle.walk.specs.Next.{next_of}
use Rattle.moves.specs.Moves.{next_text}

-- `next 0 1 0`
abbrev onward : List ℕ → List ℕ
onward s = next_text s (record { feature = 0; count = record { 0 = 1 }; lba = record { 0 = 0 } })

abbrev element : List ℕ → List ℕ
element id = zeros 4 ++ id ++ zeros 24

-- a page that was cut after 15 of 16 elements: 1 to 14, and a last one
abbrev cut : List ℕ → List ℕ
cut last = (16 ∷ zeros 3) ++ (15 ∷ zeros 27) ++ flat (λ (k : ℕ). element (suc k ∷ zeros 3)) (up_to 14) ++ element last

-- no page, a whole one, one that was cut, and one whose last identifier is the highest
pub lines : (onward [] ≡ ascii "9 at 0\n") × (onward page_g1 ≡ ascii "end\n") × (onward (cut (0xFF ∷ 0xFF ∷ 1 ∷ 0xAB ∷ [])) ≡ ascii "ask AB020000\n")
    × (onward (cut (0xFF ∷ 0xFF ∷ 0xFF ∷ 0xFF ∷ [])) ≡ ascii "end\n")
unfolding next_text next_of reach_of refused takes_health
lines = (refl, refl, refl, refl)
