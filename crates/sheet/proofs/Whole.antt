-- A whole text in a lent buffer: it was put at the front if it fits there, else nothing was.
use Prim.Native.Nat.{ℕ, ◌+◌, ◌≤◌}
use mathlib.Core.Bool.{Bool, true, false}
use mathlib.Core.List.{List, ◌++◌}
use mathlib.Core.Path.{◌≡◌, refl, sym, ◌∙◌}
use native.Mathlib.Omega.{arith}
use lib.Dec.{leb}
use lib.ListN.{length, drop, length-append}
use lib.Seq.{length-take-le}
use borrow.Author.Tests.{leb-true, leb-false, le-leb, lt-leb}
use Rattle.std.specs.Prelude.{Ok, Err}
use Rattle.io.specs.Counts.{IsPrefixLen}
use Rattle.paper.proofs.Output.{written_small, written_done}
use Rattle.paper.specs.Output.{wrote, written}
use Rattle.paper.specs.declared.Unwritten.TheVariants.{SmallBuffer}
use Rattle.slices.proofs.Lists.{stored-front}
use Rattle.slices.specs.Lists.{stored, ended}
use Rattle.writing.proofs.Puts.{puts_one}
use Rattle.writing.specs.Private.{Puts}

module _ (text out : List ℕ) (t : Bool) (is_t : t ≡ leb (length text) (length out)) where
  pub none_written : t ≡ false → wrote (Err SmallBuffer) out ≡ written text out
  none_written short = written_small text out (length text) refl (leb-false (length text) (length out) (sym is_t ∙ short))

  module _ (yes : t ≡ true) (x : List ℕ) (size : ℕ) (puts : Puts out 0 text x size) where
    room : length text ≤ length out
    room = leb-true (length text) (length out) (sym is_t ∙ yes)

    stands : (x ≡ stored out 0 text) × (size ≡ 0 + length text)
    unfolding Puts
    stands = puts (omega (arith, room))

    is_size : size ≡ length text
    is_size = omega (arith, stands.1)

    filled : x ≡ text ++ drop (length text) out
    filled = stands.0 ∙ stored-front out text room

    pub all-written : wrote (Ok size) x ≡ written text out
    all-written = written_done text out size is_size (omega (arith, room, is_size)) x filled

    -- how many bytes were written: so many the buffer has
    pub all_counts : IsPrefixLen size x
    all_counts =
        let enough : size ≤ length x = rw filled (simp length-append (omega (arith, is_size))) in
        (enough, sym (length-take-le size x enough))

-- a text of one line, which is not empty: its end tells whether it was stored
module _ (text out x : List ℕ) (size : ℕ) (is_x : x ≡ stored out 0 text) (is_size : size ≡ ended out 0 text) (some : 1 ≤ length text) where
  -- whether it fits
  abbrev fit : Bool
  fit = leb (0 + length text) (length out)

  pub line_small : size ≡ 0 → wrote (Err SmallBuffer) x ≡ written text out
  line_small none = by_test fit refl
    where
      by_test : (t : Bool) → fit ≡ t → wrote (Err SmallBuffer) x ≡ written text out
      by_test true e = let wide : size ≡ 0 + length text = is_size ∙ rw e in absurd (omega (arith, some))
      by_test false e =
          let same : x ≡ out = is_x ∙ rw e in
          rw same (none_written text out false (sym (lt-leb (length text) (length out) (omega (arith, leb-false (0 + length text) (length out) e)))) refl)

  module _ (stored_some : size ≡ 0 → ⊥) where
    room_there : true ≡ leb (length text) (length out)
    room_there = by_test fit refl
      where
        by_test : (t : Bool) → fit ≡ t → true ≡ leb (length text) (length out)
        by_test true e = sym (le-leb (length text) (length out) (omega (arith, leb-true (0 + length text) (length out) e)))
        by_test false e = absurd (stored_some (is_size ∙ rw e))

    pub line_written : wrote (Ok size) x ≡ written text out
    line_written = all-written text out true room_there refl x size (puts_one out x 0 size text is_x is_size)

    pub line_counts : IsPrefixLen size x
    line_counts = all_counts text out true room_there refl x size (puts_one out x 0 size text is_x is_size)
