-- Laws of a device's lines: their parts side by side, one law for each way out of a function, and how long they are.
use Prim.Native.Nat.{ℕ, zero, suc, ◌+◌, ◌*◌, ◌≤◌, min}
use Prim.Native.String.{String}
use mathlib.Core.Bool.{Bool, true, false}
use mathlib.Core.List.{List, [], ◌∷◌, ◌++◌}
use mathlib.Core.Path.{◌≡◌, refl, sym, ap, ◌∙◌}
use native.Mathlib.Nat.{min-le_right}
use native.Mathlib.Numerals.{add-one}
use native.Mathlib.Omega.{arith}
use lib.ListN.{length, get_or, length-append}
use Rattle.cells.specs.Cells.{is_set}
use Rattle.cells.specs.declared.Cells.{Cells}
use Rattle.cells.specs.declared.Mark.{Mark}
use Rattle.cells.specs.declared.Note.TheVariants.{Empty, Full}
use Rattle.cells.specs.declared.Note.{Note}
use Rattle.cells.specs.declared.Position.TheVariants.{Work1, Work2, Work3, Work4, Work5, Wind1, Wind2, Wind3, Wind4}
use Rattle.cells.specs.declared.Position.{Position}
use Rattle.cells.specs.declared.Removal.{Removal}
use Rattle.device.specs.declared.Device.{Device}
use Rattle.paper.specs.Flags.{is_on}
use Rattle.paper.specs.declared.Lba.{Lba}
use Rattle.slices.specs.Lists.{stored, ended, one}
use Rattle.table.specs.Elements.{blank_part}
use Rattle.table.specs.declared.Part.{Part}
use Rattle.text.proofs.Digits.{length_decimal}
use Rattle.text.specs.Digits.{digits, decimal_of}
use Rattle.text.specs.Text.{ascii}
use Rattle.writing.proofs.Puts.{puts_one, puts_same, puts_more}
use Rattle.writing.specs.Private.{Puts}
use Rattle.writing.specs.Writing.{number_line}
use Rattle.inventory.specs.Inventory.{removal_text, note_text, position_text, cells_line, element_line, elements_below, cells_of}
use Rattle.inventory.specs.Private.{limits_of, failed_of, numbers_of, end_of, head_of}
use Rattle.inventory.specs.Promises.{Enough}

-- ## A word and a number

abbrev field : String → ℕ → List ℕ
field name n = ascii name ++ decimal_of n

-- after a text
then : (d x y : List ℕ) (at m r : ℕ) (A B : List ℕ) → Puts d at A x m → y ≡ stored x m B → r ≡ ended x m B → Puts d at (A ++ B) y r
then d x y at m r A B one is_y is_r = puts_more d x at m A B y r (puts_one x y m r B is_y is_r) one

-- ## The note

pub removal_puts : (w : Removal) (d x y z i : List ℕ) (at m n r : ℕ) → i ≡ digits 16 8 w.element.0 → x ≡ stored d at i → m ≡ ended d at i
    → y ≡ stored x m (field " " w.old.0) → n ≡ ended x m (field " " w.old.0)
    → z ≡ stored y n (field " " w.new.0) → r ≡ ended y n (field " " w.new.0) → Puts d at (removal_text w) z r
removal_puts w d x y z i at m n r is_i is_x is_m is_y is_n is_z is_r =
    let I : List ℕ = digits 16 8 w.element.0 in
    let two : Puts d at (I ++ field " " w.old.0) y n = then d x y at m n I (field " " w.old.0) (puts_same d x at m i I is_i is_x is_m) is_y is_n in
    then d y z at n r (I ++ field " " w.old.0) (field " " w.new.0) two is_z is_r

module _ (note : Note) (d x : List ℕ) (at r : ℕ) where
  pub note_empty : note ≡ Empty → x ≡ stored d at (ascii "-") → r ≡ ended d at (ascii "-") → Puts d at (note_text note) x r
  note_empty e is_x is_r = rw e (puts_one d x at r (ascii "-") is_x is_r)

  pub note_full : (w : Removal) → note ≡ Full w → Puts d at (removal_text w) x r → Puts d at (note_text note) x r
  note_full w e so = rw e so

-- ## The position

pub step_named : (p q : Position) → p ≡ q → position_text q ≡ position_text p
step_named p q e = sym (ap position_text e)

pub end_puts : (p : Position) (d x y z i : List ℕ) (at m n r : ℕ) → i ≡ position_text p
    → x ≡ stored d at (ascii " position ") → m ≡ ended d at (ascii " position ") → y ≡ stored x m i → n ≡ ended x m i
    → z ≡ stored y n (ascii "\n") → r ≡ ended y n (ascii "\n") → Puts d at (end_of p) z r
end_puts p d x y z i at m n r is_i is_x is_m is_y is_n =
    let P : List ℕ = ascii " position " in
    let two : Puts x m (position_text p) y n = puts_same x y m n i (position_text p) is_i is_y is_n in
    then d y z at n r (P ++ position_text p) (ascii "\n") (puts_more d x at m P (position_text p) y n two (puts_one d x at m P is_x is_m))

-- ## The cells' line

pub limits_puts : (limit : ℕ) (native accessible : Lba) (d x y z : List ℕ) (at m n r : ℕ)
    → x ≡ stored d at (field "limit " limit) → m ≡ ended d at (field "limit " limit)
    → y ≡ stored x m (field " native " native.0) → n ≡ ended x m (field " native " native.0)
    → z ≡ stored y n (field " accessible " accessible.0) → r ≡ ended y n (field " accessible " accessible.0)
    → Puts d at (limits_of limit native accessible) z r
limits_puts limit native accessible d x y z at m n r is_x is_m is_y is_n =
    let L : List ℕ = field "limit " limit in
    let N : List ℕ = field " native " native.0 in
    then d y z at n r (L ++ N) (field " accessible " accessible.0) (then d x y at m n L N (puts_one d x at m L is_x is_m) is_y is_n)

pub failed_puts : (mark : Mark) (b : Bool) (f : ℕ) (d x : List ℕ) (at r : ℕ) → b ≡ is_set mark → f ≡ one b
    → x ≡ stored d at (field " failed " f) → r ≡ ended d at (field " failed " f) → Puts d at (failed_of mark) x r
failed_puts mark b f d x at r is_b is_f = puts_same d x at r (field " failed " f) (failed_of mark) (rw (is_f, is_b))

pub numbers_puts : (limit : ℕ) (native accessible : Lba) (mark : Mark) (d x y : List ℕ) (at m r : ℕ) → Puts x m (failed_of mark) y r
    → Puts d at (limits_of limit native accessible) x m → Puts d at (numbers_of limit native accessible mark) y r
numbers_puts limit native accessible mark d x y at m r = puts_more d x at m (limits_of limit native accessible) (failed_of mark) y r

pub line_puts : (limit : ℕ) (c : Cells) (p : Position) (d x y z w : List ℕ) (at k m n r : ℕ) → Puts d at (numbers_of limit c.native c.accessible c.failed) x k
    → y ≡ stored x k (ascii " note ") → m ≡ ended x k (ascii " note ") → Puts y m (note_text c.note) z n → Puts z n (end_of p) w r
    → Puts d at (cells_line limit c p) w r
line_puts limit c p d x y z w at k m n r one is_y is_m three four =
    let A : List ℕ = numbers_of limit c.native c.accessible c.failed in
    let B : List ℕ = ascii " note " in
    let noted : Puts x k (B ++ note_text c.note) z n = puts_more x y k m B (note_text c.note) z n three (puts_one x y k m B is_y is_m) in
    puts_more d z at n (A ++ (B ++ note_text c.note)) (end_of p) w r four (puts_more d x at k A (B ++ note_text c.note) z n noted one)

-- ## An element's line

pub head_laid : (p : Part) (health : ℕ) (i k h : List ℕ) → i ≡ digits 16 8 p.id.0 → k ≡ digits 16 2 p.kind → h ≡ digits 16 2 health
    → get_or i 0 0 ∷ get_or i 1 0 ∷ get_or i 2 0 ∷ get_or i 3 0 ∷ get_or i 4 0 ∷ get_or i 5 0 ∷ get_or i 6 0 ∷ get_or i 7 0 ∷ 32 ∷ get_or k 0 0 ∷ get_or k 1 0 ∷ 32 ∷ get_or h 0 0 ∷ get_or h 1 0 ∷ []
    ≡ head_of p health
head_laid p health i k h is_i is_k is_h = rw (is_i, is_k, is_h)

pub element_puts : (p : Part) (health f : ℕ) (b : Bool) (d x y z h : List ℕ) (at m n r : ℕ) → h ≡ head_of p health → b ≡ is_on p.unreported → f ≡ one b
    → x ≡ stored d at h → m ≡ ended d at h → y ≡ stored x m (field " " p.blocks) → n ≡ ended x m (field " " p.blocks)
    → z ≡ stored y n (number_line (ascii " ") f) → r ≡ ended y n (number_line (ascii " ") f) → Puts d at (element_line p health) z r
element_puts p health f b d x y z h at m n r is_h is_b is_f is_x is_m is_y is_n is_z is_r =
    let H : List ℕ = head_of p health in
    let F : List ℕ = number_line (ascii " ") (one (is_on p.unreported)) in
    let same : number_line (ascii " ") f ≡ F = rw (is_f, is_b) in
    let two : Puts d at (H ++ field " " p.blocks) y n = then d x y at m n H (field " " p.blocks) (puts_same d x at m h H is_h is_x is_m) is_y is_n in
    then d y z at n r (H ++ field " " p.blocks) F two (is_z ∙ ap (stored y n) same) (is_r ∙ ap (ended y n) same)

-- a turn of the loop
pub elements_next : (ps : List Part) (hs : List ℕ) (i : ℕ) (d x y : List ℕ) (from at r : ℕ) → Puts x at (element_line (get_or ps i blank_part) (get_or hs i 0)) y r
    → Puts d from (elements_below ps hs i) x at → Puts d from (elements_below ps hs (i + 1)) y r
elements_next ps hs i d x y from at r two one =
    rw (add-one i) (puts_more d x from at (elements_below ps hs i) (element_line (get_or ps i blank_part) (get_or hs i 0)) y r two one)

-- ## The whole text

pub cells_puts : (v : Device) (d x y : List ℕ) (at m r : ℕ) → Puts d at (cells_line v.table.limit v.cells v.position) x m
    → Puts x m (elements_below v.table.parts v.cells.healths (min v.table.count 128)) y r → Puts d at (cells_of v) y r
unfolding cells_of
cells_puts v d x y at m r one two =
    puts_more d x at m (cells_line v.table.limit v.cells v.position)
    (elements_below v.table.parts v.cells.healths (min v.table.count 128)) y r two one

-- ## How long

length_bit : (b : Bool) → length (decimal_of (one b)) ≡ 1
length_bit true = refl
length_bit false = refl

length_note : (note : Note) → length (note_text note) ≤ 50
length_note Empty = omega arith
length_note (Full w) = simp length-append (omega (arith, length_decimal w.old.0, length_decimal w.new.0))

length_position : (p : Position) → length (position_text p) ≡ 5
length_position Work1 = refl
length_position Work2 = refl
length_position Work3 = refl
length_position Work4 = refl
length_position Work5 = refl
length_position Wind1 = refl
length_position Wind2 = refl
length_position Wind3 = refl
length_position Wind4 = refl

length_line : (limit : ℕ) (c : Cells) (p : Position) → length (cells_line limit c p) ≤ 200
length_line limit c p =
    simp length-append
    (omega (
      arith,
      length_decimal limit,
      length_decimal c.native.0,
      length_decimal c.accessible.0,
      length_bit (is_set c.failed),
      length_note c.note,
      length_position p,
    ))

length-element : (p : Part) (health : ℕ) → length (element_line p health) ≤ 38
length-element p health = simp length-append (omega (arith, length_decimal p.blocks, length_bit (is_on p.unreported)))

length_elements : (ps : List Part) (hs : List ℕ) (n : ℕ) → length (elements_below ps hs n) ≤ 38 * n
length_elements ps hs zero = omega arith
length_elements ps hs (suc n) =
    let line : List ℕ = element_line (get_or ps n blank_part) (get_or hs n 0) in
    omega (arith, length-append (elements_below ps hs n) line, length_elements ps hs n, length-element (get_or ps n blank_part) (get_or hs n 0))

pub length_cells : (v : Device) → length (cells_of v) ≤ 6000
unfolding cells_of
length_cells v =
    let first : List ℕ = cells_line v.table.limit v.cells v.position in
    let n : ℕ = min v.table.count 128 in
    omega (
      arith,
      length-append first (elements_below v.table.parts v.cells.healths n),
      length_line v.table.limit v.cells v.position,
      length_elements v.table.parts v.cells.healths n,
      min-le_right v.table.count 128,
    )

pub enough : Enough
enough = length_cells
