-- Laws of lines put together from pieces: a turn of the loop, and the ways out.
use Prim.Native.Nat.{ℕ, ◌+◌, ◌≤◌, ◌<◌}
use mathlib.Core.Bool.{true, false}
use mathlib.Core.List.{List}
use mathlib.Core.Path.{◌≡◌, sym, ◌∙◌}
use native.Mathlib.Numerals.{add-one}
use lib.ListN.{length, drop, get_or, drop_of_length-le}
use lib.Seq.{drop-cons}
use borrow.Author.Tests.{eq-eqb, ne_eqb}
use Rattle.pieces.specs.Pieces.{pushed, taken_from}
use Rattle.pieces.specs.declared.Gathered.{Gathered}

module _ (piece : List ℕ) (g line : Gathered) (from at : ℕ) (so : taken_from line (drop at piece) at ≡ taken_from g (drop from piece) from) where
  module _ (less : at < length piece) where
    pub taken_newline : get_or piece at 0 ≡ 10 → record { line = line; at = at + 1; whole = true } ≡ taken_from g (drop from piece) from
    unfolding taken_from
    taken_newline e = sym (sym so ∙ rw (drop-cons piece at 0 less, eq-eqb _ _ e))

    pub taken_more : (get_or piece at 0 ≡ 10 → ⊥) → (next : Gathered) → next ≡ pushed line (get_or piece at 0)
        → taken_from next (drop (at + 1) piece) (at + 1) ≡ taken_from g (drop from piece) from
    unfolding taken_from
    taken_more n next is_next = sym (sym so ∙ rw (drop-cons piece at 0 less, ne_eqb _ _ n, is_next, add-one at))

  pub taken_end : length piece ≤ at → record { line = line; at = at; whole = false } ≡ taken_from g (drop from piece) from
  unfolding taken_from
  taken_end h = sym (sym so ∙ rw (drop_of_length-le piece h))
