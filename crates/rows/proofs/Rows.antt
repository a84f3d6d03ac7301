-- Laws of the lines: one for each way out of a function, and how long they are.
use Prim.Native.Nat.{ℕ, ◌+◌, ◌-◌, ◌≤◌}
use mathlib.Core.Bool.{Bool, true, false, cond}
use mathlib.Core.List.{List, [], ◌∷◌, ◌++◌}
use mathlib.Core.Path.{◌≡◌, refl, sym, ap, ◌∙◌, subst⁻¹}
use native.Mathlib.Nat.{zero-add}
use native.Mathlib.Omega.{arith}
use lib.Dec.{eqb}
use lib.ListN.{length, get_or, take, drop, replicate, length-append, length-take, length-drop}
use lib.Seq.{length-take-le}
use borrow.Author.Tests.{le-leb, leb-true}
use Rattle.layout.specs.Bytes.{all_ones}
use Rattle.layout.specs.declared.Descriptor.{Descriptor}
use Rattle.slices.proofs.Lists.{ended_yes, length-stored, stored_more, part_stored, part_ended, front-shown}
use Rattle.slices.specs.Lists.{fits, stored, ended}
use Rattle.text.proofs.Digits.{length_decimal}
use Rattle.text.specs.Digits.{digits, decimal_of}
use Rattle.text.specs.Text.{ascii}
use Rattle.writing.proofs.Puts.{puts_one, puts_same, puts_more}
use Rattle.writing.specs.Private.{Puts}
use Rattle.rows.specs.Private.{grade_of, values_for, head_of}
use Rattle.rows.specs.Rows.{capacity_of, values_of, descriptor_line}

-- ## Before the capacity

pub grade_laid : (kind health : ℕ) (g : List ℕ) → g ≡ digits 16 2 kind ++ digits 16 2 health
    → get_or g 0 0 ∷ get_or g 1 0 ∷ 32 ∷ get_or g 2 0 ∷ get_or g 3 0 ∷ 32 ∷ [] ≡ grade_of kind health
grade_laid kind health g is_g = rw is_g

pub head_laid : (id : ℕ) (i : List ℕ) → i ≡ digits 16 8 id
    → get_or i 0 0 ∷ get_or i 1 0 ∷ get_or i 2 0 ∷ get_or i 3 0 ∷ get_or i 4 0 ∷ get_or i 5 0 ∷ get_or i 6 0 ∷ get_or i 7 0 ∷ 32 ∷ [] ≡ head_of id
head_laid id i is_i = rw is_i

-- ## A capacity, stored and measured

module _ (c : ℕ) (b : Bool) (is_b : b ≡ eqb c all_ones) where
  module _ (so : b ≡ true) where
    dashed : ascii "-" ≡ capacity_of c
    dashed = sym (rw (sym is_b ∙ so))

    pub dash_wide : 1 ≡ length (capacity_of c)
    dash_wide = ap length dashed

    pub dash_stored : (d x : List ℕ) (at : ℕ) → x ≡ stored d at (ascii "-") → x ≡ stored d at (capacity_of c)
    dash_stored d x at is_x = is_x ∙ ap (stored d at) dashed

    pub dash_ended : (d : List ℕ) (at r : ℕ) → r ≡ ended d at (ascii "-") → r ≡ ended d at (capacity_of c)
    dash_ended d at r is_r = is_r ∙ ap (ended d at) dashed

  module _ (so : b ≡ false) where
    numbered : decimal_of c ≡ capacity_of c
    numbered = sym (rw (sym is_b ∙ so))

    pub number_wide : (w : ℕ) → w ≡ length (decimal_of c) → w ≡ length (capacity_of c)
    number_wide w is_w = is_w ∙ ap length numbered

    pub number-stored : (d x : List ℕ) (at : ℕ) → x ≡ stored d at (decimal_of c) → x ≡ stored d at (capacity_of c)
    number-stored d x at is_x = is_x ∙ ap (stored d at) numbered

    pub number-ended : (d : List ℕ) (at r : ℕ) → r ≡ ended d at (decimal_of c) → r ≡ ended d at (capacity_of c)
    number-ended d at r is_r = is_r ∙ ap (ended d at) numbered

-- ## An element's values

length_capacity : (n : ℕ) → length (capacity_of n) ≤ 20
length_capacity n = by_test (eqb n all_ones)
  where
    by_test : (t : Bool) → length (cond t (ascii "-") (decimal_of n)) ≤ 20
    by_test true = omega arith
    by_test false = length_decimal n

pub length_values : (d : Descriptor) → length (values_of d) ≤ 26
length_values d = simp length-append (omega (arith, length_capacity d.capacity))

-- of 26 bytes the first 6, then the others
module _ (kind health c w : ℕ) (d g a b : List ℕ) (long : length d ≡ 26) (is_g : g ≡ grade_of kind health) (is_a : a ≡ stored (take 6 d) 0 g) where
  abbrev begun : List ℕ
  begun = a ++ drop 6 d

  is_begun : begun ≡ stored d 0 (grade_of kind health)
  is_begun = part_stored d (grade_of kind health) 0 6 (omega arith) (omega arith) a (is_a ∙ ap (stored (take 6 d) 0) is_g)

  begun_long : length begun ≡ 26
  begun_long = ap length is_begun ∙ length-stored d (grade_of kind health) 0 ∙ long

  module _ (is_b : b ≡ stored (take 20 (drop 6 begun)) 0 (capacity_of c)) (is_w : w ≡ ended (take 20 (drop 6 begun)) 0 (capacity_of c)) where
    pub front-stored : take 6 begun ++ (b ++ drop 20 (drop 6 begun)) ≡ stored d 0 (values_for kind health c)
    front-stored =
        part_stored begun (capacity_of c) 6 20 (omega (arith, begun_long)) (length_capacity c) b is_b
        ∙ ap (λ (l : List ℕ). stored l 6 (capacity_of c)) is_begun
        ∙ stored_more d 0 (grade_of kind health) (capacity_of c) (omega (arith, long, length_capacity c))

    pub front_wide : 6 + w ≡ length (values_for kind health c)
    front_wide =
        let room : 0 + length (capacity_of c) ≤ length (take 20 (drop 6 begun)) = simp (length-take, length-drop) (omega (arith, begun_long, length_capacity c)) in
        let wide : w ≡ length (capacity_of c) = is_w ∙ sym (ended_yes (take 20 (drop 6 begun)) (capacity_of c) 0 true (sym (le-leb _ _ room)) refl) ∙ zero-add _ in
        omega (arith, wide)

    pub front_few : 6 + w ≤ 26
    front_few = omega (arith, front_wide, length_capacity c)

-- in the part that they are lent, and by themselves
module _ (e : Descriptor) (d : List ℕ) (at : ℕ) where
  module _ (t : Bool) (is_t : t ≡ fits 26 at (length d)) (yes : t ≡ true) where
    pub room_there : at + 26 ≤ length d
    room_there = leb-true (at + 26) (length d) (sym is_t ∙ yes)

    pub part_values : (y : List ℕ) → y ≡ stored (take (at + 26 - at) (drop at d)) 0 (values_of e)
        → take at d ++ (y ++ drop (at + 26 - at) (drop at d)) ≡ stored d at (values_of e)
    part_values y = subst⁻¹ Whole whole (part_stored d (values_of e) at 26 room_there (length_values e) y)
      where
        Whole : ℕ → Type 0
        Whole k = y ≡ stored (take k (drop at d)) 0 (values_of e) → take at d ++ (y ++ drop k (drop at d)) ≡ stored d at (values_of e)

        whole : at + 26 - at ≡ 26
        whole = omega arith

    pub part_values_end : (r : ℕ) → r ≡ length (values_of e) → at + r ≡ ended d at (values_of e)
    part_values_end = part_ended d (values_of e) at 26 room_there (length_values e)

    pub part_values_room : (r : ℕ) → r ≡ length (values_of e) → at + r ≤ length d
    part_values_room r is_r = omega (arith, is_r, room_there, length_values e)

  module _ (z : List ℕ) (w : ℕ) (is_z : z ≡ stored (replicate 26 0) 0 (values_of e)) (is_w : w ≡ length (values_of e)) where
    pub apart_there : w ≤ length z
    apart_there = omega (arith, is_w, length_values e, ap length is_z ∙ length-stored (replicate 26 0) (values_of e) 0)

    pub apart_long : w ≡ length (take w z)
    apart_long = sym (length-take-le w z apart_there)

    apart_values : take w z ≡ values_of e
    apart_values = (λ i. take (is_w i) (is_z i)) ∙ front-shown (replicate 26 0) (values_of e) (length_values e)

    pub apart_stored : (x : List ℕ) → x ≡ stored d at (take w z) → x ≡ stored d at (values_of e)
    apart_stored x is_x = is_x ∙ ap (stored d at) apart_values

    pub apart_ended : (r : ℕ) → r ≡ ended d at (take w z) → r ≡ ended d at (values_of e)
    apart_ended r is_r = is_r ∙ ap (ended d at) apart_values

-- ## A descriptor's line

module _ (e : Descriptor) (d x y z h : List ℕ) (at m n r : ℕ) (is_h : h ≡ head_of e.id.0) (is_x : x ≡ stored d at h) (is_m : m ≡ ended d at h)
    (is_y : y ≡ stored x m (values_of e)) (is_n : n ≡ ended x m (values_of e)) (is_z : z ≡ stored y n (ascii "\n")) (is_r : r ≡ ended y n (ascii "\n")) where
  pub line_puts : Puts d at (descriptor_line e) z r
  line_puts =
      let H : List ℕ = head_of e.id.0 in
      let one : Puts d at H x m = puts_same d x at m h H is_h is_x is_m in
      let two : Puts x m (values_of e) y n = puts_one x y m n (values_of e) is_y is_n in
      let three : Puts y n (ascii "\n") z r = puts_one y z n r (ascii "\n") is_z is_r in
      puts_more d y at n (H ++ values_of e) (ascii "\n") z r three (puts_more d x at m H (values_of e) y n two one)

-- ## How long

pub length_line : (d : Descriptor) → length (descriptor_line d) ≤ 36
length_line d = simp length-append (omega (arith, length_capacity d.capacity))

module _ (d : Descriptor) (w : ℕ) (is_w : w ≡ length (capacity_of d.capacity)) where
  pub width_values : 6 + w ≡ length (values_of d)
  width_values = simp length-append (omega (arith, is_w))

  pub width_line : 16 + w ≡ length (descriptor_line d)
  width_line = simp length-append (omega (arith, is_w))
