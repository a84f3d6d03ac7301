-- The 32 bytes of a descriptor: a law for each way out.
use Prim.Native.Nat.{ℕ, ◌+◌, ◌*◌, ◌≤◌, ◌<◌}
use mathlib.Core.List.{List, []}
use mathlib.Core.Path.{◌≡◌, sym, ◌∙◌}
use native.Mathlib.Omega.{arith}
use lib.ListN.{length, take, drop, length-drop}
use borrow.Author.Tests.{lt-ltb, le-ltb}
use Rattle.compare.specs.declared.Cursor.{Cursor}
use Rattle.compare.specs.declared.Line.TheVariants.{OnlyOlder, OnlyNewer, Changed}
use Rattle.compare.specs.declared.Line.{Line}
use Rattle.layout.specs.Bytes.{header_in}
use Rattle.layout.specs.declared.Header.{Header}
use Rattle.offences.specs.Checks.{base_of}
use Rattle.reach.proofs.Bounds.{count_read}
use Rattle.reach.specs.Pages.{count_of}
use Rattle.words.specs.declared.Order.TheVariants.{Little}
use Rattle.parts.specs.Parts.{first_part, descriptor_part, part_of}

module _ (s : List ℕ) (k : ℕ) (h : Header) (is_h : h ≡ header_in Little s) where
  pub part_none : h.returned ≤ k → [] ≡ descriptor_part s k
  unfolding descriptor_part
  part_none l = sym (rw (le-ltb k (count_of s) (omega (arith, count_read s h is_h))))

  module _ (l : k < h.returned) where
    there : descriptor_part s k ≡ first_part (drop (base_of k) s)
    unfolding descriptor_part
    there = rw (lt-ltb k (count_of s) (omega (arith, count_read s h is_h)))

    pub part_short : length s < 32 + 32 * k + 32 → [] ≡ descriptor_part s k
    part_short m = sym (there ∙ rw (lt-ltb (length (drop (base_of k) s)) 32 (omega (arith, length-drop (base_of k) s))))

    pub part_there : 32 + 32 * k + 32 ≤ length s → (n : ℕ) → n ≡ 32 → take n (drop (32 + 32 * k) s) ≡ descriptor_part s k
    part_there m n is_n = sym (there ∙ rw (le-ltb (length (drop (base_of k) s)) 32 (omega (arith, length-drop (base_of k) s)), is_n))

module _ (s t : List ℕ) (line : Line) (r : List ℕ) where
  pub part_older : (k : ℕ) → line ≡ OnlyOlder k → r ≡ descriptor_part s k → r ≡ part_of s t line
  part_older k e so = so ∙ sym (rw e)

  pub part_newer : (k : ℕ) → line ≡ OnlyNewer k → r ≡ descriptor_part t k → r ≡ part_of s t line
  part_newer k e so = so ∙ sym (rw e)

  pub part_changed : (c : Cursor) → line ≡ Changed c → r ≡ descriptor_part t c.newer → r ≡ part_of s t line
  part_changed c e so = so ∙ sym (rw e)
