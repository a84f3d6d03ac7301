-- Laws of the lines: how long they are, and one for each way out of a function and each turn of a loop.
use Prim.Native.Nat.{ℕ, zero, suc, ◌+◌, ◌-◌, ◌*◌, ◌^◌, ◌≤◌, ◌<◌}
use mathlib.Core.Bool.{Bool, true, false, cond}
use mathlib.Core.List.{List, [], ◌++◌}
use mathlib.Core.Path.{◌≡◌, refl, sym, ap, ◌∙◌}
use native.Mathlib.Numerals.{add-one}
use native.Mathlib.Omega.{arith}
use lib.Dec.{leb}
use lib.ListN.{length, take, drop, length-append}
use borrow.Author.Tests.{le-leb, lt-leb}
use Rattle.layout.specs.Bytes.{descriptor_in}
use Rattle.layout.specs.declared.Descriptor.{Descriptor}
use Rattle.offences.proofs.Checks.{whole_read}
use Rattle.offences.specs.Checks.{base_of, descriptor_at}
use Rattle.rows.proofs.Rows.{length_line}
use Rattle.rows.specs.Rows.{descriptor_line}
use Rattle.slices.specs.Lists.{stored, ended}
use Rattle.words.specs.declared.Order.{Order}
use Rattle.writing.proofs.Puts.{puts_none, puts_one, puts_more}
use Rattle.writing.specs.Private.{Puts}
use Rattle.entries.specs.Entries.{lines_below, lines_of}

-- ## All there, or not

-- so many lines in so many bytes, at most 65,536: their descriptors are all there, which are at most 2,047
abbrev pub There : ℕ → ℕ → Type 0
There n size = (1 ≤ n → base_of n ≤ size) × (n ≤ 2047)

pub none_there : (size : ℕ) → There 0 size
none_there size = (λ some. absurd (omega arith), omega arith)

module _ (o : Order) (s : List ℕ) where
  all_lines : (n : ℕ) → base_of n ≤ length s → lines_below o s n ≡ lines_of o s n
  all_lines n there = sym (rw (le-leb (base_of n) (length s) there))

  no_lines : (n : ℕ) → length s < base_of n → [] ≡ lines_of o s n
  no_lines n less = sym (rw (lt-leb (base_of n) (length s) less))

  pub lines_there : (n : ℕ) → (1 ≤ n → base_of n ≤ length s) → lines_of o s n ≡ lines_below o s n
  lines_there zero there = by_test (leb (base_of 0) (length s))
    where
      by_test : (t : Bool) → cond t (lines_below o s 0) [] ≡ []
      by_test true = refl
      by_test false = refl
  lines_there (suc n) there = sym (all_lines (suc n) (there (omega arith)))

  -- ## How long

  pub below_few : (k : ℕ) → length (lines_below o s k) ≤ 36 * k
  below_few zero = omega arith
  below_few (suc k) =
      let line : List ℕ = descriptor_line (descriptor_at o s k) in
      omega (arith, length-append (lines_below o s k) line, below_few k, length_line (descriptor_at o s k))

  pub length_lines : (n : ℕ) → length (lines_of o s n) ≤ 36 * n
  length_lines n = by_test (leb (base_of n) (length s))
    where
      by_test : (t : Bool) → length (cond t (lines_below o s n) []) ≤ 36 * n
      by_test true = below_few n
      by_test false = omega arith

  pub none_wide : (n : ℕ) → length s < base_of n → 0 ≡ length (lines_of o s n)
  none_wide n less = ap length (no_lines n less)

  pub all_wide : (n k size : ℕ) → size ≡ length (lines_below o s k) → k ≤ n → n ≤ k → base_of n ≤ length s → size ≡ length (lines_of o s n)
  all_wide n k size is_size few past there =
      let all : k ≡ n = omega arith in
      is_size ∙ ap (λ (m : ℕ). length (lines_below o s m)) all ∙ ap length (all_lines n there)

  -- ## A turn of a loop

  module _ (k : ℕ) (e : Descriptor) (is_e : e ≡ descriptor_at o s k) where
    next : lines_below o s (k + 1) ≡ lines_below o s k ++ descriptor_line e
    next = rw (add-one k, is_e)

    module _ (n w : ℕ) (is_n : n ≡ length (lines_below o s k)) (is_w : w ≡ length (descriptor_line e)) where
      pub measure_next : n + w ≡ length (lines_below o s (k + 1))
      measure_next = omega (arith, ap length next, length-append (lines_below o s k) (descriptor_line e))

      pub measure_room : (count : ℕ) → k < count → count < 2 ^ 32 → n + w < 2 ^ 64
      measure_room count less small = omega (arith, below_few k, length_line e)

    put_next : (d x y : List ℕ) (from at r : ℕ) → y ≡ stored x at (descriptor_line e) → r ≡ ended x at (descriptor_line e)
        → Puts d from (lines_below o s k) x at → Puts d from (lines_below o s (k + 1)) y r
    put_next d x y from at r is_y is_r so =
        rw next (puts_more d x from at (lines_below o s k) (descriptor_line e) y r (puts_one x y at r (descriptor_line e) is_y is_r) so)

-- ## The lines, from place to place

-- the lines of the descriptors before a place are put, and end at `at`
pub record PutBefore (o : Order) (s : List ℕ) (count : ℕ) (d : List ℕ) (from base : ℕ) (x : List ℕ) (at : ℕ) : Type 0 where
  pub k : ℕ
  pub is_base : base ≡ base_of k
  pub few : k ≤ count
  pub puts : Puts d from (lines_below o s k) x at

module _ (o : Order) (s : List ℕ) (count : ℕ) (d : List ℕ) (from : ℕ) where
  pub put_missing : length s < base_of count → Puts d from (lines_of o s count) d from
  put_missing less = rw (sym (no_lines o s count less)) (puts_none d from)

  pub put_none : PutBefore o s count d from 32 d from
  put_none = record { k = 0; is_base = refl; few = omega arith; puts = puts_none d from }

  module _ (base at : ℕ) (x : List ℕ) (so : PutBefore o s count d from base x at) where
    pub put_all : base_of count ≤ base → base_of count ≤ length s → Puts d from (lines_of o s count) x at
    put_all past there =
        let all : count ≡ so.k = omega (arith, so.is_base, so.few) in
        rw (sym (all_lines o s count there), all) so.puts

    pub put_there : base < base_of count → base_of count ≤ length s → base + 32 ≤ length s
    put_there less there = omega (arith, so.is_base, so.few)

    pub put_on : base < base_of count → (e : Descriptor) → e ≡ descriptor_in o (take (base + 32 - base) (drop base s)) → (y : List ℕ) (r : ℕ)
        → y ≡ stored x at (descriptor_line e) → r ≡ ended x at (descriptor_line e) → PutBefore o s count d from (base + 32) y r
    put_on less e is_e y r is_y is_r =
        let here : e ≡ descriptor_at o s so.k = whole_read o s base e is_e ∙ ap (λ (n : ℕ). descriptor_in o (drop n s)) so.is_base in
        record {
          k = so.k + 1;
          is_base = omega (arith, so.is_base);
          few = omega (arith, so.is_base);
          puts = put_next o s so.k e here d x y from at r is_y is_r so.puts;
        }
