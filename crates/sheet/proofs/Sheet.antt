-- Laws of a listing's text: one for each way out of a function, and how long it is.
use Prim.Native.Nat.{ℕ, ◌+◌, ◌*◌, ◌^◌, ◌≤◌, ◌<◌}
use mathlib.Core.Bool.{Bool, true}
use mathlib.Core.List.{List, ◌++◌}
use mathlib.Core.Path.{◌≡◌, sym}
use native.Mathlib.Omega.{arith}
use lib.Dec.{leb}
use lib.ListN.{length, length-append}
use borrow.Author.Tests.{le-leb}
use Rattle.entries.proofs.Entries.{length_lines}
use Rattle.entries.specs.Entries.{lines_of}
use Rattle.heading.proofs.Heading.{length_header}
use Rattle.layout.specs.declared.Header.{Header}
use Rattle.rows.specs.Rows.{header_line, refused_line}
use Rattle.slices.specs.Lists.{stored, ended}
use Rattle.tally.proofs.Line.{length_tally}
use Rattle.tally.specs.Tally.{tally_line}
use Rattle.words.specs.declared.Order.{Order}
use Rattle.writing.proofs.Puts.{puts_one, puts_more}
use Rattle.writing.specs.Private.{Puts}
use Rattle.sheet.specs.Sheet.{sheet_of}

pub refused_some : (p : ℕ) → 1 ≤ length (refused_line p)
refused_some p = omega arith

module _ (o : Order) (s : List ℕ) (h : Header) (whole number : ℕ) (torn : Bool) where
  -- ## How long

  long : length (sheet_of o s h whole number torn) ≡ length (header_line h) + length (lines_of o s whole) + length (tally_line whole number torn)
  unfolding sheet_of
  long = omega (
    arith,
    length-append (header_line h ++ lines_of o s whole) (tally_line whole number torn),
    length-append (header_line h) (lines_of o s whole),
  )

  length_sheet : length (sheet_of o s h whole number torn) ≤ 178 + 36 * whole
  length_sheet = omega (arith, long, length_header h, length_lines o s whole, length_tally whole number torn)

  pub room_unmeasured : (room : ℕ) → 178 + 36 * whole ≤ room → true ≡ leb (length (sheet_of o s h whole number torn)) room
  room_unmeasured room enough = sym (le-leb (length (sheet_of o s h whole number torn)) room (omega (arith, length_sheet)))

  module _ (a b c : ℕ) (is_a : a ≡ length (header_line h)) (is_b : b ≡ length (lines_of o s whole)) where
    pub two_fit : whole < 2 ^ 32 → a + b < 2 ^ 64
    two_fit few = omega (arith, length_header h, length_lines o s whole)

    module _ (is_c : c ≡ length (tally_line whole number torn)) where
      pub three_fit : whole < 2 ^ 32 → a + b + c < 2 ^ 64
      three_fit few = omega (arith, length_header h, length_lines o s whole, length_tally whole number torn)

      pub room_measured : (room : ℕ) → leb (a + b + c) room ≡ leb (length (sheet_of o s h whole number torn)) room
      room_measured room =
          let all : a + b + c ≡ length (sheet_of o s h whole number torn) = omega (arith, long) in
          rw all

  -- ## Stored

  pub sheet_puts : (d x y z : List ℕ) (m n r : ℕ) → x ≡ stored d 0 (header_line h) → m ≡ ended d 0 (header_line h)
      → y ≡ stored x m (lines_of o s whole) → n ≡ ended x m (lines_of o s whole)
      → z ≡ stored y n (tally_line whole number torn) → r ≡ ended y n (tally_line whole number torn) → Puts d 0 (sheet_of o s h whole number torn) z r
  unfolding sheet_of
  sheet_puts d x y z m n r is_x is_m is_y is_n is_z is_r =
      let A : List ℕ = header_line h in
      let B : List ℕ = lines_of o s whole in
      let C : List ℕ = tally_line whole number torn in
      let two : Puts d 0 (A ++ B) y n = puts_more d x 0 m A B y n (puts_one x y m n B is_y is_n) (puts_one d x 0 m A is_x is_m) in
      puts_more d y 0 n (A ++ B) C z r (puts_one y z n r C is_z is_r) two
