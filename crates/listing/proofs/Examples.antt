-- Document 01's example, and the listing's edges, computed from the definitions.
use Prim.Native.Nat.{ℕ}
use mathlib.Core.Bool.{false}
use mathlib.Core.List.{List, [], ◌∷◌, ◌++◌}
use mathlib.Core.Path.{◌≡◌, refl, ap, ◌∙◌}
use lib.ListN.{replicate}
use Rattle.entries.specs.Entries.{lines_below}
use Rattle.layout.specs.Bytes.{all_ones}
use Rattle.layout.specs.Examples.{zeros, header_g1, page_g1}
use Rattle.layout.specs.declared.Descriptor.{Descriptor}
use Rattle.offences.specs.Checks.{descriptor_at}
use Rattle.reader.specs.Judgement.{Values, header}
use Rattle.request.specs.Requests.{refused, takes_health}
use Rattle.rows.specs.Rows.{descriptor_line, header_line}
use Rattle.text.specs.Text.{ascii}
use Rattle.words.specs.declared.Order.TheVariants.{Little}
use Rattle.listing.specs.Listing.{judged, first_line, line_count, listing_of}

-- a page of one descriptor, whose capacity has these bytes: the first, the second, and each of the other six
abbrev page : ℕ → ℕ → ℕ → List ℕ
page a b c =
    (1 ∷ zeros 3) ++ (1 ∷ zeros 3) ++ zeros 4 ++ (2 ∷ zeros 19)
    ++ zeros 4 ++ (0x03 ∷ 0x00 ∷ 0x01 ∷ zeros 7) ++ (0x01 ∷ 0x70 ∷ a ∷ b ∷ replicate 6 c) ++ zeros 456

abbrev element : ℕ → Descriptor
element capacity = record { id = record { 0 = 0x0001_0003 }; restorable = false; kind = 0x01; health = 0x70; capacity = capacity }

-- it is taken, whatever the capacity
taken : (a b c : ℕ) → (judged (page a b c)).state ≡ header header_g1
unfolding refused takes_health
taken a b c = refl

listed : (a b c : ℕ) (d : Descriptor) → descriptor_at Little (page a b c) 0 ≡ d → listing_of (page a b c) ≡ header_line header_g1 ++ descriptor_line d
unfolding listing_of
listed a b c d is_d =
    ap (λ (v : Values). first_line v ++ lines_below Little (page a b c) (line_count v)) (taken a b c)
    ∙ ap (λ (x : Descriptor). header_line header_g1 ++ descriptor_line x) is_d

pub G1 : listing_of page_g1 ≡ ascii "number 1 returned 1 busy 00000000 limit 2 removed 0\n00010003 01 70 500\n"
G1 = listed 0xF4 0x01 0x00 (element 500) refl

pub unreported : listing_of (page 0xFF 0xFF 0xFF) ≡ ascii "number 1 returned 1 busy 00000000 limit 2 removed 0\n00010003 01 70 -\n"
unreported = listed 0xFF 0xFF 0xFF (element all_ones) refl

-- no page, a length that is not 512p, N at 1 with nothing returned, and a last byte that is not 0
pub refusals : (listing_of [] ≡ ascii "refused 9 at 0\n") × (listing_of (zeros 513) ≡ ascii "refused 9 at 0\n")
    × (listing_of (1 ∷ zeros 511) ≡ ascii "refused 9 at 4\n") × (listing_of (zeros 511 ++ (1 ∷ [])) ≡ ascii "refused 9 at 511\n")
unfolding listing_of refused takes_health
refusals = (refl, refl, refl, refl)
