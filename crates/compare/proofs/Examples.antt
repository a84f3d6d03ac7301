-- The definitions at work on small pages, shorter than any that the reader accepts: what the walk gives, and what the differences are where a
-- page was cut.
use Prim.Native.Nat.{ℕ}
use mathlib.Core.Bool.{Bool, true, false}
use mathlib.Core.List.{List, [], ◌∷◌, ◌++◌}
use mathlib.Core.Path.{◌≡◌, refl}
use Rattle.layout.specs.Bytes.{header_bytes, descriptor_bytes}
use Rattle.layout.specs.declared.Descriptor.{Descriptor}
use Rattle.reach.specs.Pages.{count_of, element_at, reach_of, bound_of}
use Rattle.slices.specs.Lists.{flat}
use Rattle.words.specs.declared.Order.TheVariants.{Little}
use Rattle.compare.specs.Differences.{standing, difference_at, differences_in, differences_of}
use Rattle.compare.specs.Walk.{cursor, first, key_at, agree_at, step_at, past, next_to, next_of, walk, walk_from}
use Rattle.compare.specs.declared.Line.TheVariants.{OnlyOlder, OnlyNewer, Changed}

-- a page's header and descriptors
abbrev page : ℕ → ℕ → List Descriptor → List ℕ
page number returned ds =
    header_bytes Little (record { number = number; returned = returned; busy = record { 0 = 0 }; limit = 2; removed = 0 })
    ++ flat (descriptor_bytes Little) ds

abbrev pub element : ℕ → ℕ → Descriptor
element id health = record { id = record { 0 = id }; restorable = false; kind = 1; health = health; capacity = 500 }

-- 1 gone, 3 unchanged, 4 new, 0001_0003h removed
abbrev pub older : List ℕ
older = page 3 3 (element 1 0x20 ∷ element 3 0x10 ∷ element 0x10003 0x70 ∷ [])

abbrev pub newer : List ℕ
newer = page 3 3 (element 3 0x10 ∷ element 4 0 ∷ element 0x10003 0xFF ∷ [])

walked : walk_from older newer first ≡ OnlyOlder 0 ∷ OnlyNewer 1 ∷ Changed (cursor 2 2) ∷ []
unfolding count_of element_at reach_of bound_of key_at agree_at step_at past next_to next_of walk walk_from
walked = refl

-- cut after 3: 4 and what is above it are not compared
unfoldable pub cut : List ℕ
cut = page 3 2 (element 1 0x20 ∷ element 3 0x11 ∷ [])

up_to_3 : differences_of cut newer ≡ OnlyOlder 0 ∷ Changed (cursor 1 0) ∷ []
unfolding cut count_of element_at reach_of bound_of standing difference_at differences_in differences_of
up_to_3 = refl

walked_to_3 : walk_from cut newer first ≡ OnlyOlder 0 ∷ Changed (cursor 1 0) ∷ []
unfolding cut count_of element_at reach_of bound_of key_at agree_at step_at past next_to next_of walk walk_from
walked_to_3 = refl

-- both cut, after 3 and after 1: only 1 is compared
shorter : List ℕ
shorter = page 2 1 (element 1 0x21 ∷ [])

up_to_1 : differences_of cut shorter ≡ Changed (cursor 0 0) ∷ []
unfolding cut shorter count_of element_at reach_of bound_of standing difference_at differences_in differences_of
up_to_1 = refl

-- the highest identifier, with the flag alone changed
flagged : Bool → List ℕ
flagged b = page 1 1 (record { id = record { 0 = 0xFFFF_FFFF }; restorable = b; kind = 1; health = 0xFF; capacity = 500 } ∷ [])

flag_alone : walk_from (flagged false) (flagged true) first ≡ Changed (cursor 0 0) ∷ []
unfolding flagged count_of element_at reach_of bound_of key_at agree_at step_at past next_to next_of walk walk_from
flag_alone = refl
