-- Laws of a reading: its parts side by side, one law for each way out of a function, and how long it is.
use Prim.Native.Nat.{ℕ, zero, suc, ◌+◌, ◌*◌, ◌≤◌, ◌<◌}
use mathlib.Core.Bool.{Bool, true, false}
use mathlib.Core.List.{List, [], ◌∷◌, ◌++◌}
use mathlib.Core.Path.{◌≡◌, refl, sym, ap, ◌∙◌}
use native.Mathlib.Numerals.{add-one}
use native.Mathlib.Omega.{arith}
use lib.ListN.{length, take, get_or, length-append, length-take}
use Rattle.std.proofs.Common.{Option, None, Some, Result, Err}
use Rattle.heading.proofs.Heading.{length_header}
use Rattle.layout.specs.declared.Descriptor.{Descriptor}
use Rattle.layout.specs.declared.Header.{Header}
use Rattle.offences.specs.declared.Offence.{Offence}
use Rattle.reader.proofs.LayoutTheorem.{with_header}
use Rattle.reader.proofs.Taken.{taken, room}
use Rattle.reader.specs.Judgement.{Values, header, place, heard, read_of, slot_of}
use Rattle.request.specs.declared.Request.{Request}
use Rattle.rows.proofs.Rows.{length_values}
use Rattle.rows.specs.Rows.{values_of, header_line}
use Rattle.slices.specs.Lists.{stored, ended, one}
use Rattle.text.proofs.Digits.{length_decimal}
use Rattle.text.specs.Digits.{digits, decimal_of}
use Rattle.text.specs.Text.{ascii}
use Rattle.words.specs.declared.Order.TheVariants.{Little}
use Rattle.words.specs.declared.Order.{Order}
use Rattle.writing.proofs.Puts.{puts_none, puts_one, puts_same, puts_more}
use Rattle.writing.specs.Private.{Puts}
use Rattle.contents.specs.Contents.{held_line, slot_line, slots_below, list_text, refused_line, reading_for, reading_of}
use Rattle.contents.specs.Private.{head_of, slot_at}
use Rattle.contents.specs.Promises.{Enough}

-- ## A descriptor's line

bit_digit : (b : Bool) → decimal_of (one b) ≡ (48 + one b) ∷ []
bit_digit true = refl
bit_digit false = refl

pub bit_fits : (b : Bool) (n : ℕ) → n ≡ one b → 48 + n < 256
bit_fits true n e = omega arith
bit_fits false n e = omega arith

pub head_laid : (d : Descriptor) (i : List ℕ) (n : ℕ) → i ≡ digits 16 8 d.id.0 → n ≡ one d.restorable
    → get_or i 0 0 ∷ get_or i 1 0 ∷ get_or i 2 0 ∷ get_or i 3 0 ∷ get_or i 4 0 ∷ get_or i 5 0 ∷ get_or i 6 0 ∷ get_or i 7 0 ∷ 32 ∷ (48 + n) ∷ 32 ∷ [] ≡ head_of d
head_laid d i n is_i is_n = rw (is_i, is_n, bit_digit d.restorable)

pub held_puts : (e : Descriptor) (d x y z h : List ℕ) (at m n r : ℕ) → h ≡ head_of e → x ≡ stored d at h → m ≡ ended d at h
    → y ≡ stored x m (values_of e) → n ≡ ended x m (values_of e) → z ≡ stored y n (ascii "\n") → r ≡ ended y n (ascii "\n") → Puts d at (held_line e) z r
held_puts e d x y z h at m n r is_h is_x is_m is_y is_n is_z is_r =
    let one : Puts d at (head_of e) x m = puts_same d x at m h (head_of e) is_h is_x is_m in
    let two : Puts x m (values_of e) y n = puts_one x y m n (values_of e) is_y is_n in
    puts_more d y at n (head_of e ++ values_of e) (ascii "\n") z r (puts_one y z n r (ascii "\n") is_z is_r) (puts_more d x at m (head_of e) (values_of e) y n two one)

pub slot_none : (slot : Option Descriptor) (d : List ℕ) (at : ℕ) → slot ≡ None → Puts d at (slot_line slot) d at
slot_none slot d at e = rw e (puts_none d at)

-- the slot, by the order that it was found in
pub at_order : (o found : Order) → o ≡ found → (s : List ℕ) (k : ℕ) (slot : Option Descriptor) → slot ≡ slot_at found s k → slot ≡ slot_at o s k
at_order o found e s k slot is_slot = is_slot ∙ sym (rw e)

-- a turn of the loop
pub slots_next : (slots : ℕ → Option Descriptor) (k : ℕ) (slot : Option Descriptor) → slot ≡ slots k → (d x y : List ℕ) (from at r : ℕ) → Puts x at (slot_line slot) y r
    → Puts d from (slots_below slots k) x at → Puts d from (slots_below slots (k + 1)) y r
slots_next slots k slot is_slot d x y from at r two one =
    let line : Puts x at (slot_line (slots k)) y r = rw is_slot at two in
    rw (add-one k) (puts_more d x from at (slots_below slots k) (slot_line (slots k)) y r line one)

-- ## The whole text

pub list_puts : (h : Header) (slots : ℕ → Option Descriptor) (count : ℕ) (d x y z : List ℕ) (at m n r : ℕ) → x ≡ stored d at (ascii "0\n") → m ≡ ended d at (ascii "0\n")
    → y ≡ stored x m (header_line h) → n ≡ ended x m (header_line h) → Puts y n (slots_below slots count) z r → Puts d at (list_text h slots count) z r
list_puts h slots count d x y z at m n r is_x is_m is_y is_n three =
    let one : Puts d at (ascii "0\n") x m = puts_one d x at m (ascii "0\n") is_x is_m in
    let two : Puts x m (header_line h) y n = puts_one x y m n (header_line h) is_y is_n in
    puts_more d y at n (ascii "0\n" ++ header_line h) (slots_below slots count) z r three (puts_more d x at m (ascii "0\n") (header_line h) y n two one)

pub judged-refused : (s : List ℕ) (answer : Result Header Offence) (d x : List ℕ) (at r : ℕ) (p : Offence) → answer ≡ Err p
    → x ≡ stored d at (refused_line p.0) → r ≡ ended d at (refused_line p.0) → Puts d at (reading_for s (heard answer).state) x r
judged-refused s answer d x at r p e is_x is_r = rw e (puts_one d x at r (refused_line p.0) is_x is_r)

pub reading_puts : (page kept : List ℕ) (q : Request) (answer : Result Header Offence) (d x : List ℕ) (at r : ℕ) → kept ≡ take 65536 page
    → heard answer ≡ read_of Little kept q → Puts d at (reading_for kept (heard answer).state) x r → Puts d at (reading_of page q) x r
unfolding reading_of
reading_puts page kept q answer d x at r is_kept is_answer so = rw (is_answer, is_kept) at so

-- ## How long: 128 pages have room for 2,047 descriptors

length_slot : (slot : Option Descriptor) → length (slot_line slot) ≤ 38
length_slot None = omega arith
length_slot (Some d) = simp length-append (omega (arith, ap length (bit_digit d.restorable), length_values d))

length_slots : (slots : ℕ → Option Descriptor) (k : ℕ) → length (slots_below slots k) ≤ 38 * k
length_slots slots zero = omega arith
length_slots slots (suc k) = omega (arith, length-append (slots_below slots k) (slot_line (slots k)), length_slots slots k, length_slot (slots k))

pub length_list : (h : Header) (slots : ℕ → Option Descriptor) (k : ℕ) → k ≤ 2047 → length (list_text h slots k) ≤ 79000
length_list h slots k less =
    omega (
      arith,
      length-append (ascii "0\n" ++ header_line h) (slots_below slots k),
      length-append (ascii "0\n") (header_line h),
      length_header h,
      length_slots slots k,
    )

few : (s : List ℕ) (q : Request) (h : Header) → length s ≤ 65536 → (read_of Little s q).state ≡ header h → h.returned ≤ 2047
few s q h short e =
    let (is_0, is_h) = with_header Little s q h e in
    let t = taken Little s q is_0 in
    omega (arith, t.long, room Little s q t, ap (λ (g : Header). g.returned) is_h)

length_values_of : (s : List ℕ) (q : Request) → length s ≤ 65536 → (v : Values) → (read_of Little s q).state ≡ v → length (reading_for s v) ≤ 80000
length_values_of s q short (place p) e = simp length-append (omega (arith, length_decimal p))
length_values_of s q short (header h) e = omega (arith, length_list h (slot_of Little s) h.returned (few s q h short e))

pub length_reading : (page : List ℕ) (q : Request) → length (reading_of page q) ≤ 80000
unfolding reading_of
length_reading page q =
    let short : length (take 65536 page) ≤ 65536 = rw (length-take 65536 page) (omega arith) in
    length_values_of (take 65536 page) q short (read_of Little (take 65536 page) q).state refl

pub enough : Enough
enough = length_reading
