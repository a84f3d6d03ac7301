-- Laws of data as rows, the last of which may be shorter: one for each way out of a function and for each turn of a loop.
use Prim.Native.Nat.{ℕ, suc, ◌+◌, ◌-◌, ◌*◌, ◌/◌, ◌≤◌, ◌<◌}
use mathlib.Core.Bool.{Bool, true, false}
use mathlib.Core.List.{List, ◌++◌, append-nil}
use mathlib.Core.Path.{◌≡◌, refl, sym, ap, ◌∙◌}
use native.Mathlib.Omega.{arith}
use lib.Dec.{eqb}
use lib.ListN.{length, take, drop, replicate, length-append, length-take, length-drop}
use lib.Seq.{take_all, take-append-le}
use borrow.Author.Tests.{eq-eqb, ne_eqb, eqb-true, eqb-false}
use Rattle.slices.proofs.Lists.{front-shown, length-flat, flat_cut, length-stored}
use Rattle.slices.specs.Lists.{flat, stored, ended}
use Rattle.text.proofs.Digits.{length_digits, length_decimal}
use Rattle.text.specs.Digits.{digits, decimal_of}
use Rattle.text.specs.Text.{ascii}
use Rattle.writing.proofs.Puts.{puts_none, puts_one, puts_same, puts_more}
use Rattle.writing.specs.Private.{Puts}
use Rattle.writing.specs.Writing.{number_line}
use Rattle.dump.specs.Dump.{row_line, rows_below, data_lines, data_text}
use Rattle.dump.specs.Private.{last_line}
use Rattle.dump.specs.Promises.{EnoughForData}
use Rattle.dump.proofs.Dump.{length-rows}

-- ## The last row

module _ (s : List ℕ) (short : length s < 32) where
  -- what a row's line begins with, whatever fills the row up
  begins : (w : List ℕ) → w ≡ stored (replicate 32 0) 0 s → take (2 * length s) (row_line (take 32 w)) ≡ flat (digits 16 2) s
  begins w is_w =
      let each : (b : ℕ) → length (digits 16 2 b) ≡ 2 = λ b. length_digits 16 2 b in
      let long : length w ≡ 32 = ap length is_w ∙ length-stored (replicate 32 0) s 0 in
      let wide : length (flat (digits 16 2) w) ≡ 2 * length w = length-flat (digits 16 2) 2 each w in
      let none_more : 2 * length s ≡ 2 * length s + 0 = omega arith in
      rw (take_all 32 w (omega arith))
      (take-append-le (2 * length s) (flat (digits 16 2) w) (ascii "\n") (omega arith)
      ∙ ap (λ (n : ℕ). take n (flat (digits 16 2) w)) none_more
      ∙ flat_cut (digits 16 2) 2 each w (length s) 0 0 (omega arith) (omega arith)
      ∙ append-nil (flat (digits 16 2) (take (length s) w))
      ∙ ap (flat (digits 16 2)) (ap (take (length s)) is_w ∙ front-shown (replicate 32 0) s (omega arith)))

  module _ (d : List ℕ) (at : ℕ) where
    pub last_none : length s ≡ 0 → Puts d at (last_line s) d at
    last_none e = rw (eq-eqb (length s) 0 e) (puts_none d at)

    pub last_puts : (length s ≡ 0 → ⊥) → (w line part x y : List ℕ) (m r : ℕ) → w ≡ stored (replicate 32 0) 0 s → line ≡ row_line (take 32 w)
        → part ≡ take (2 * length s) line → x ≡ stored d at part → m ≡ ended d at part → y ≡ stored x m (ascii "\n") → r ≡ ended x m (ascii "\n")
        → Puts d at (last_line s) y r
    last_puts some w line part x y m r is_w is_line is_part is_x is_m is_y is_r =
        let F : List ℕ = flat (digits 16 2) s in
        let same : part ≡ F = is_part ∙ ap (take (2 * length s)) is_line ∙ begins w is_w in
        rw (ne_eqb (length s) 0 some) (puts_more d x at m F (ascii "\n") y r (puts_one x y m r (ascii "\n") is_y is_r) (puts_same d x at m part F same is_x is_m))

-- ## The whole text

pub enough_for_data : EnoughForData
unfolding data_text
enough_for_data s =
    let w : List ℕ = take 65536 s in
    let n : ℕ = (length w + 31) / 32 in
    let short : length w ≤ 65536 = rw (length-take 65536 s) (omega arith) in
    omega (
      arith,
      length-append (number_line (ascii "bytes ") (length w)) (rows_below w n),
      length-append (ascii "bytes " ++ decimal_of (length w)) (ascii "\n"),
      length-append (ascii "bytes ") (decimal_of (length w)),
      length_decimal (length w),
      length-rows w n,
    )

one_more : (w rest : List ℕ) (n : ℕ) → rest ≡ drop (32 * n) w → length rest ≤ 32 → rows_below w (suc n) ≡ rows_below w n ++ row_line rest
unfolding rows_below
one_more w rest n is_rest short = rw (← is_rest, take_all 32 rest short)

module _ (w rest : List ℕ) (n : ℕ) (is_n : n ≡ length w / 32) (is_rest : rest ≡ drop (32 * n) w) where
  left : length rest ≡ length w - 32 * n
  left = ap length is_rest ∙ length-drop (32 * n) w

  pub rest_short : length rest < 32
  rest_short = omega (arith, left)

  each_row : rows_below w ((length w + 31) / 32) ≡ rows_below w n ++ last_line rest
  each_row = by_test (eqb (length rest) 0) refl
    where
      by_test : (t : Bool) → eqb (length rest) 0 ≡ t → rows_below w ((length w + 31) / 32) ≡ rows_below w n ++ last_line rest
      by_test true e =
          let none : length rest ≡ 0 = eqb-true (length rest) 0 e in
          let all : (length w + 31) / 32 ≡ n = omega (arith, left) in
          rw (all, e) (sym (append-nil (rows_below w n)))
      by_test false e =
          let some : (length rest ≡ 0 → ⊥) = eqb-false (length rest) 0 e in
          let more : (length w + 31) / 32 ≡ suc n = omega (arith, left) in
          rw (more, e) (one_more w rest n is_rest (omega (arith, rest_short)))

  pub lines_puts : (d x y z : List ℕ) (at m k r : ℕ) → x ≡ stored d at (number_line (ascii "bytes ") (length w))
      → m ≡ ended d at (number_line (ascii "bytes ") (length w)) → Puts x m (rows_below w n) y k → Puts y k (last_line rest) z r → Puts d at (data_lines w) z r
  lines_puts d x y z at m k r is_x is_m two three =
      let N : List ℕ = number_line (ascii "bytes ") (length w) in
      let R : List ℕ = rows_below w ((length w + 31) / 32) in
      let rows : Puts x m R z r = rw each_row (puts_more x y m k (rows_below w n) (last_line rest) z r three two) in
      puts_more d x at m N R z r rows (puts_one d x at m N is_x is_m)

pub data_puts : (bytes w d x : List ℕ) (at r : ℕ) → w ≡ take 65536 bytes → Puts d at (data_lines w) x r → Puts d at (data_text bytes) x r
unfolding data_text
data_puts bytes w d x at r is_w so = rw is_w at so
