-- The listing's edges, computed from the definitions: a list of two, whole, cut at several places, and refused.
use Prim.Native.Nat.{ℕ}
use mathlib.Core.List.{List, [], ◌∷◌, ◌++◌}
use mathlib.Core.Path.{◌≡◌, refl}
use lib.ListN.{take, replicate}
use Rattle.layout.specs.Examples.{zeros}
use Rattle.query.specs.Queries.{due_four}
use Rattle.request.specs.Requests.{takes_health}
use Rattle.text.specs.Text.{ascii}
use Rattle.docklist.specs.Docklist.{listing_of}

-- big-endian: an element's identifier, 0001_00xxh, and its capacity's last bytes after six equal ones
abbrev element : ℕ → ℕ → ℕ → ℕ → List ℕ
element id a b c = zeros 5 ++ (0x01 ∷ 0x00 ∷ id ∷ zeros 6) ++ (0x01 ∷ 0x70 ∷ replicate 6 a) ++ (b ∷ c ∷ zeros 8)

-- the returned number, and the first element's identifier
abbrev bytes : ℕ → ℕ → List ℕ
bytes returned id = zeros 3 ++ (2 ∷ zeros 3) ++ (returned ∷ zeros 5) ++ (2 ∷ zeros 18) ++ element id 0x00 0x01 0xF4 ++ element 0x04 0xFF 0xFF 0xFF

abbrev cut_at : ℕ → List ℕ
cut_at n = take n (bytes 2 0x03)

abbrev first : List ℕ
first = ascii "number 2 returned 2 busy 00000000 limit 2 removed 0\n"

pub whole : listing_of (bytes 2 0x03) ≡ first ++ ascii "00010003 01 70 500\n00010004 01 70 -\n"
unfolding listing_of due_four takes_health
whole = refl

pub cuts : (listing_of (cut_at 95) ≡ first ++ ascii "00010003 01 70 500\ntorn 1 of 2\n")
    × (listing_of (cut_at 64) ≡ first ++ ascii "00010003 01 70 500\ncut 1 of 2\n")
    × (listing_of (cut_at 63) ≡ first ++ ascii "torn 0 of 2\n")
    × (listing_of (cut_at 32) ≡ first ++ ascii "cut 0 of 2\n")
unfolding listing_of due_four takes_health
cuts = (refl, refl, refl, refl)

-- no whole header, a returned number that is not N, identifiers that do not ascend, and a byte past the list
pub refusals : (listing_of (cut_at 31) ≡ ascii "refused 9 at 0\n") × (listing_of (bytes 1 0x03) ≡ ascii "refused 9 at 4\n")
    × (listing_of (bytes 2 0x04) ≡ ascii "refused 9 at 68\n") × (listing_of (bytes 2 0x03 ++ (0 ∷ [])) ≡ ascii "refused 9 at 96\n")
unfolding listing_of due_four takes_health
refusals = (refl, refl, refl, refl)
