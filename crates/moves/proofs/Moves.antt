-- Laws of the line of `next`: one for each way out of a function, and how long it is.
use Prim.Native.Nat.{ℕ, ◌≤◌}
use mathlib.Core.List.{List}
use mathlib.Core.Path.{◌≡◌, sym, ap, ◌∙◌}
use native.Mathlib.Omega.{arith}
use lib.ListN.{length, take, length-append}
use Rattle.std.proofs.Common.{Option, Result}
use Rattle.offences.specs.declared.Offence.{Offence}
use Rattle.paper.specs.declared.ElementId.{ElementId}
use Rattle.request.specs.declared.Request.{Request}
use Rattle.slices.specs.Lists.{stored, ended}
use Rattle.text.proofs.Digits.{length_decimal}
use Rattle.text.specs.Digits.{digits}
use Rattle.text.specs.Text.{ascii}
use Rattle.walk.specs.Next.{Values, ask, end, place, heard, next_of}
use Rattle.moves.specs.Moves.{ask_line, move_line, next_text}

pub ask_laid : (id : ElementId) (i x : List ℕ) → i ≡ digits 16 8 id.0 → x ≡ stored (ascii "ask 00000000\n") 4 i → x ≡ ask_line id
ask_laid id i x is_i is_x = is_x ∙ rw is_i

module _ (page kept : List ℕ) (q : Request) (m : Result (Option ElementId) Offence) (is_kept : kept ≡ take 65536 page) (is_m : heard m ≡ next_of kept q) where
  line : move_line (heard m).state ≡ next_text page q
  unfolding next_text
  line = rw (is_m, is_kept)

  pub next_stored : (d x : List ℕ) (at : ℕ) → x ≡ stored d at (move_line (heard m).state) → x ≡ stored d at (next_text page q)
  next_stored d x at is_x = is_x ∙ ap (stored d at) line

  pub next_ended : (d : List ℕ) (at r : ℕ) → r ≡ ended d at (move_line (heard m).state) → r ≡ ended d at (next_text page q)
  next_ended d at r is_r = is_r ∙ ap (ended d at) line

length_move : (v : Values) → length (move_line v) ≤ 26
length_move (ask id) = omega arith
length_move end = omega arith
length_move (place p) = simp length-append (omega (arith, length_decimal p))

pub length_next : (page : List ℕ) (q : Request) → length (next_text page q) ≤ 26
unfolding next_text
length_next page q = length_move (next_of (take 65536 page) q).state
