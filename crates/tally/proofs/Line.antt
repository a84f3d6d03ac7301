-- Laws of the line: one for each way out of a function, and how long it is.
use Prim.Native.Nat.{ℕ, ◌+◌, ◌^◌, ◌≤◌, ◌<◌}
use mathlib.Core.Bool.{Bool, true, false, cond}
use mathlib.Core.List.{List, [], ◌++◌}
use mathlib.Core.Path.{◌≡◌}
use native.Mathlib.Omega.{arith}
use lib.Dec.{ltb}
use lib.ListN.{length, length-append}
use borrow.Author.Tests.{lt-ltb, le-ltb}
use Rattle.slices.specs.Lists.{stored, ended}
use Rattle.text.proofs.Digits.{length_decimal}
use Rattle.text.specs.Digits.{decimal_of}
use Rattle.text.specs.Text.{ascii}
use Rattle.writing.proofs.Puts.{puts_none, puts_one, puts_more}
use Rattle.writing.specs.Private.{Puts}
use Rattle.writing.specs.Writing.{number_line}
use Rattle.tally.specs.Tally.{count_line, tally_line}

-- ## Stored

module _ (whole number : ℕ) (d x : List ℕ) (at r : ℕ) where
  pub count_puts : (name y : List ℕ) (m : ℕ) → x ≡ stored d at (name ++ decimal_of whole) → r ≡ ended d at (name ++ decimal_of whole)
      → y ≡ stored x r (number_line (ascii " of ") number) → m ≡ ended x r (number_line (ascii " of ") number) → Puts d at (count_line name whole number) y m
  count_puts name y m is_x is_r is_y is_m =
      let A : List ℕ = name ++ decimal_of whole in
      let B : List ℕ = number_line (ascii " of ") number in
      puts_more d x at r A B y m (puts_one x y r m B is_y is_m) (puts_one d x at r A is_x is_r)

  pub torn_puts : (t : Bool) → t ≡ true → Puts d at (count_line (ascii "torn ") whole number) x r → Puts d at (tally_line whole number t) x r
  torn_puts t e so = rw e so

  pub cut_puts : (t : Bool) → t ≡ false → whole < number → Puts d at (count_line (ascii "cut ") whole number) x r → Puts d at (tally_line whole number t) x r
  cut_puts t e less so = rw (e, lt-ltb whole number less) so

pub none_puts : (whole number : ℕ) (t : Bool) → t ≡ false → number ≤ whole → (d : List ℕ) (at : ℕ) → Puts d at (tally_line whole number t) d at
none_puts whole number t e all d at = rw (e, le-ltb whole number all) (puts_none d at)

-- nothing, where none is missing
pub tally_none : (n : ℕ) → tally_line n n false ≡ []
tally_none n = rw (le-ltb n n (omega arith))

-- ## How long

pub digits-fit : (whole number a b : ℕ) → a ≡ length (decimal_of whole) → b ≡ length (decimal_of number) → a + b < 2 ^ 64
digits-fit whole number a b is_a is_b = omega (arith, length_decimal whole, length_decimal number)

pub digits_few : (whole number n : ℕ) → n ≡ length (decimal_of whole) + length (decimal_of number) → n ≤ 40
digits_few whole number n is_n = omega (arith, length_decimal whole, length_decimal number)

module _ (whole number : ℕ) (t : Bool) where
  module _ (n : ℕ) (is_n : n ≡ length (decimal_of whole) + length (decimal_of number)) where
    pub torn_wide : t ≡ true → 10 + n ≡ length (tally_line whole number t)
    torn_wide e = rw e (simp length-append (omega (arith, is_n)))

    pub cut_wide : t ≡ false → whole < number → 9 + n ≡ length (tally_line whole number t)
    cut_wide e less = rw (e, lt-ltb whole number less) (simp length-append (omega (arith, is_n)))

  pub none_wide : t ≡ false → number ≤ whole → 0 ≡ length (tally_line whole number t)
  none_wide e all = rw (e, le-ltb whole number all)

pub length_tally : (whole number : ℕ) (t : Bool) → length (tally_line whole number t) ≤ 50
length_tally whole number true = simp length-append (omega (arith, length_decimal whole, length_decimal number))
length_tally whole number false = by_test (ltb whole number)
  where
    by_test : (b : Bool) → length (cond b (count_line (ascii "cut ") whole number) []) ≤ 50
    by_test true = simp length-append (omega (arith, length_decimal whole, length_decimal number))
    by_test false = omega arith
