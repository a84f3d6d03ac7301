-- What stands at a place of a page, its descriptor and its key, and whether two descriptors agree: a law for each way out.
use Prim.Native.Nat.{ℕ, ◌+◌, ◌*◌, ◌≤◌, ◌<◌}
use mathlib.Core.Bool.{Bool, true, false, cond}
use mathlib.Core.List.{List}
use mathlib.Core.Path.{◌≡◌, refl, sym, ap, ◌∙◌}
use native.Mathlib.Omega.{arith}
use lib.Dec.{ltb}
use lib.ListN.{take, drop}
use borrow.Author.Tests.{lt-ltb, le-ltb, ltb-true}
use Rattle.layout.proofs.Reserved.{part_read}
use Rattle.layout.specs.Bytes.{header_in, descriptor_in}
use Rattle.layout.specs.declared.Descriptor.{Descriptor}
use Rattle.layout.specs.declared.Header.{Header}
use Rattle.offences.specs.Checks.{descriptor_at}
use Rattle.paper.specs.declared.ElementId.{ElementId}
use Rattle.reach.proofs.Bounds.{count_read}
use Rattle.reach.specs.Pages.{element_at, bound_of, end_of}
use Rattle.reader.proofs.LayoutTheorem.{and_both}
use Rattle.words.specs.declared.Order.TheVariants.{Little}
use Rattle.compare.specs.Private.{is_inside}
use Rattle.compare.specs.Walk.{cursor, frame_of, key_at}
use Rattle.compare.specs.declared.Cursor.{Cursor}

-- ## A descriptor

pub element_read : (s : List ℕ) (k : ℕ) (d : Descriptor) → d ≡ descriptor_at Little s k → d ≡ element_at s k
unfolding element_at
element_read s k d is_d = is_d

pub whole_read : (s : List ℕ) (k n : ℕ) → n ≡ 32 → (d : Descriptor) → d ≡ descriptor_in Little (take n (drop (32 + 32 * k) s)) → d ≡ element_at s k
unfolding element_at
whole_read s k n is_n d is_d = is_d ∙ rw is_n (part_read Little (drop (32 + 32 * k) s))

module _ (s : List ℕ) (k : ℕ) (d : Descriptor) where
  pub id_whole : d ≡ element_at s k → d.id ≡ (element_at s k).id
  id_whole is_d = ap (λ (x : Descriptor). x.id) is_d

  pub id_read : d ≡ descriptor_at Little s k → d.id ≡ (element_at s k).id
  id_read is_d = id_whole (element_read s k d is_d)

-- ## A key

module _ (s : List ℕ) (count k : ℕ) (end : ElementId) where
  pub key_none : count ≤ k → end.0 + 1 ≡ key_at s count k end
  unfolding key_at
  key_none l = sym (rw (le-ltb k count l))

  pub key_there : k < count → (id : ElementId) → id ≡ (element_at s k).id → id.0 ≡ key_at s count k end
  unfolding key_at
  key_there l id is_id = ap (λ (x : ElementId). x.0) is_id ∙ sym (rw (lt-ltb k count l))

-- the frame, read off the headers
pub frame_read : (s t : List ℕ) (h g : Header) (end : ElementId) → h ≡ header_in Little s → g ≡ header_in Little t → end ≡ end_of (bound_of s t)
    → record { last = cursor h.returned g.returned; end = end } ≡ frame_of s t
frame_read s t h g end is_h is_g is_end = λ i. record { last = cursor (count_read s h is_h i) (count_read t g is_g i); end = is_end i }

pub inside : (s : List ℕ) (count k : ℕ) (end : ElementId) → key_at s count k end ≤ end.0 → k < count
unfolding key_at
inside s count k end = by_test (ltb k count) refl
  where
    by_test : (b : Bool) → ltb k count ≡ b → cond b (element_at s k).id.0 (end.0 + 1) ≤ end.0 → k < count
    by_test true e l = ltb-true _ _ e
    by_test false e l = absurd (omega arith)

-- ## Places and descriptors at a cursor

module _ (last c : Cursor) where
  pub inside_both : (b : Bool) → b ≡ is_inside last c → b ≡ true → (c.older < last.older) × (c.newer < last.newer)
  inside_both b is_b so =
      let both = and_both (ltb c.older last.older) (ltb c.newer last.newer) (sym is_b ∙ so) in
      (ltb-true _ _ both.0, ltb-true _ _ both.1)
