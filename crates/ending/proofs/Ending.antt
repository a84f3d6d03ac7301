-- Laws of the last line: one for each way out of a function, and how long it is.
use Prim.Native.Nat.{ℕ, ◌≤◌}
use mathlib.Core.List.{List, ◌++◌}
use mathlib.Core.Path.{◌≡◌, refl, ◌∙◌}
use native.Mathlib.Omega.{arith}
use lib.ListN.{length}
use Rattle.paper.specs.declared.ElementId.{ElementId}
use Rattle.reach.specs.Opening.{Values, bound, turn, heard}
use Rattle.reach.specs.declared.Turn.TheVariants.{Older, Newer}
use Rattle.reach.specs.declared.Turn.{Turn}
use Rattle.slices.specs.Lists.{stored, ended}
use Rattle.std.specs.Prelude.{Option, Some, None, Result, Ok, Err}
use Rattle.text.specs.Digits.{digits}
use Rattle.text.specs.Text.{ascii}
use Rattle.writing.proofs.Puts.{puts_none, puts_one, puts_same, puts_more}
use Rattle.writing.specs.Private.{Puts}
use Rattle.ending.specs.Ending.{bound_line, reach_line, refused_line, last_line}

-- ## How long it is

pub length_last : (v : Values) → length (last_line v) ≤ 24
length_last (bound b) = length_reach b
  where
    length_reach : (b : Option ElementId) → length (reach_line b) ≤ 24
    length_reach None = omega arith
    length_reach (Some id) = omega arith
length_last (turn w) = length-refused w
  where
    length-refused : (w : Turn) → length (refused_line w) ≤ 24
    length-refused Older = omega arith
    length-refused Newer = omega arith

-- ## Stored

width_turn : (w : Turn) → 16 ≡ length (refused_line w)
width_turn Older = refl
width_turn Newer = refl

pub width_refused : (opening : Result (Option ElementId) Turn) (w : Turn) → opening ≡ Err w → 16 ≡ length (last_line (heard opening).state)
width_refused opening w e = rw e (width_turn w)

pub bound_puts : (id : ElementId) (d x y z i : List ℕ) (at m n r : ℕ) → i ≡ digits 16 8 id.0
    → x ≡ stored d at (ascii "compared up to ") → m ≡ ended d at (ascii "compared up to ") → y ≡ stored x m i → n ≡ ended x m i
    → z ≡ stored y n (ascii "\n") → r ≡ ended y n (ascii "\n") → Puts d at (bound_line id.0) z r
bound_puts id d x y z i at m n r is_i is_x is_m is_y is_n is_z is_r =
    let B : List ℕ = ascii "compared up to " in
    let I : List ℕ = digits 16 8 id.0 in
    let two : Puts d at (B ++ I) y n = puts_more d x at m B I y n (puts_same x y m n i I is_i is_y is_n) (puts_one d x at m B is_x is_m) in
    puts_more d y at n (B ++ I) (ascii "\n") z r (puts_one y z n r (ascii "\n") is_z is_r) two

module _ (d x : List ℕ) (at r : ℕ) where
  module _ (w : Turn) where
    pub refused_older : w ≡ Older → x ≡ stored d at (ascii "refused 9 older\n") → r ≡ ended d at (ascii "refused 9 older\n") → Puts d at (refused_line w) x r
    refused_older e is_x is_r = rw e (puts_one d x at r (ascii "refused 9 older\n") is_x is_r)

    pub refused_newer : w ≡ Newer → x ≡ stored d at (ascii "refused 9 newer\n") → r ≡ ended d at (ascii "refused 9 newer\n") → Puts d at (refused_line w) x r
    refused_newer e is_x is_r = rw e (puts_one d x at r (ascii "refused 9 newer\n") is_x is_r)

-- of whole pages there is no last line
pub none_puts : (opening : Result (Option ElementId) Turn) → opening ≡ Ok None → (d : List ℕ) (at : ℕ) → Puts d at (last_line (heard opening).state) d at
none_puts opening e d at = rw e (puts_none d at)
