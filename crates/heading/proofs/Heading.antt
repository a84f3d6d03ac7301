-- Laws of the first line: its parts side by side, one law for each function, and how long it is.
use Prim.Native.Nat.{ℕ, ◌+◌, ◌≤◌}
use Prim.Native.String.{String}
use mathlib.Core.List.{List, ◌++◌, append_assoc}
use mathlib.Core.Path.{◌≡◌, ap, ◌∙◌, subst}
use native.Mathlib.Omega.{arith}
use lib.ListN.{length, length-append}
use Rattle.layout.specs.declared.Header.{Header}
use Rattle.rows.specs.Rows.{header_line, refused_line}
use Rattle.slices.specs.Lists.{stored, ended}
use Rattle.text.proofs.Digits.{length_decimal}
use Rattle.text.specs.Digits.{digits, decimal_of}
use Rattle.text.specs.Text.{ascii}
use Rattle.writing.proofs.Puts.{puts_one, puts_more}
use Rattle.writing.specs.Private.{Puts}
use Rattle.writing.specs.Writing.{number_line}
use Rattle.heading.specs.Private.{busy_of, counts_of, limits_of}

-- ## A word and a number

abbrev field : String → ℕ → List ℕ
field name n = ascii name ++ decimal_of n

-- ## The header's line

two_puts : (A B d x y : List ℕ) (at m r : ℕ) → x ≡ stored d at A → m ≡ ended d at A → y ≡ stored x m B → r ≡ ended x m B → Puts d at (A ++ B) y r
two_puts A B d x y at m r is_x is_m is_y is_r = puts_more d x at m A B y r (puts_one x y m r B is_y is_r) (puts_one d x at m A is_x is_m)

pub busy_puts : (h : Header) (d x y id : List ℕ) (at m r : ℕ) → id ≡ digits 16 8 h.busy.0
    → x ≡ stored d at (ascii " busy ") → m ≡ ended d at (ascii " busy ") → y ≡ stored x m id → r ≡ ended x m id → Puts d at (busy_of h) y r
busy_puts h d x y id at m r is_id is_x is_m is_y is_r =
    two_puts (ascii " busy ") (digits 16 8 h.busy.0) d x y at m r is_x is_m (is_y ∙ ap (stored x m) is_id) (is_r ∙ ap (ended x m) is_id)

pub counts_puts : (h : Header) (d x y z : List ℕ) (at m n r : ℕ)
    → x ≡ stored d at (field "number " h.number) → m ≡ ended d at (field "number " h.number)
    → y ≡ stored x m (field " returned " h.returned) → n ≡ ended x m (field " returned " h.returned)
    → Puts y n (busy_of h) z r → Puts d at (counts_of h) z r
counts_puts h d x y z at m n r is_x is_m is_y is_n three =
    let A : List ℕ = field "number " h.number in
    let B : List ℕ = field " returned " h.returned in
    puts_more d y at n (A ++ B) (busy_of h) z r three (two_puts A B d x y at m n is_x is_m is_y is_n)

pub limits_puts : (h : Header) (d x y : List ℕ) (at m r : ℕ)
    → x ≡ stored d at (field " limit " h.limit) → m ≡ ended d at (field " limit " h.limit)
    → y ≡ stored x m (number_line (ascii " removed ") h.removed) → r ≡ ended x m (number_line (ascii " removed ") h.removed) → Puts d at (limits_of h) y r
limits_puts h d x y at m r = two_puts (field " limit " h.limit) (number_line (ascii " removed ") h.removed) d x y at m r

regroup : (a b i l r e : List ℕ) → a ++ (b ++ i) ++ (l ++ (r ++ e)) ≡ a ++ b ++ i ++ l ++ r ++ e
regroup a b i l r e = simp append_assoc

pub header_puts : (h : Header) (d x y : List ℕ) (at m r : ℕ) → Puts x m (limits_of h) y r → Puts d at (counts_of h) x m → Puts d at (header_line h) y r
header_puts h d x y at m r two one =
    let A : List ℕ = field "number " h.number ++ field " returned " h.returned in
    subst (λ (l : List ℕ). Puts d at l y r)
    (regroup A (ascii " busy ") (digits 16 8 h.busy.0) (field " limit " h.limit) (field " removed " h.removed) (ascii "\n"))
    (puts_more d x at m (counts_of h) (limits_of h) y r two one)

-- ## How long

pub width_header : (h : Header) (a b c d : ℕ)
    → a ≡ length (decimal_of h.number) → b ≡ length (decimal_of h.returned) → c ≡ length (decimal_of h.limit) → d ≡ length (decimal_of h.removed)
    → 48 + (a + b) + (c + d) ≡ length (header_line h)
width_header h a b c d is_a is_b is_c is_d = simp length-append (omega arith)

pub length_header : (h : Header) → length (header_line h) ≤ 128
length_header h =
    simp length-append
    (omega (arith, length_decimal h.number, length_decimal h.returned, length_decimal h.limit, length_decimal h.removed))

pub length-refused : (p : ℕ) → length (refused_line p) ≤ 128
length-refused p = simp length-append (omega (arith, length_decimal p))
