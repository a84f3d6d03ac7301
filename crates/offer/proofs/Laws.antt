-- What the check's answer tells of an offered table, and what a good one is.
use Prim.Native.Nat.{ℕ, ◌≤◌, ◌^◌}
use mathlib.Core.Bool.{Bool, true, false, cond, ◌&&◌}
use mathlib.Core.List.{List, [], ◌∷◌}
use mathlib.Core.Path.{◌≡◌, refl, ap}
use native.Mathlib.Omega.{arith}
use lib.Dec.{leb}
use borrow.Author.Tests.{leb-true}
use Rattle.paper.specs.Told.{Told, tells}
use Rattle.slices.specs.Lists.{all}
use Rattle.table.proofs.Ascending.{both}
use Rattle.table.specs.Elements.{ascending}
use Rattle.offer.specs.Check.{sized, shaped, healthy, summed, structured, good, check_of, verdict}
use Rattle.offer.specs.Elements.{offered, element_ids, block_sum}
use Rattle.std.proofs.Common.{Some, None}
use Rattle.offer.specs.declared.Element.{Element}
use Rattle.offer.specs.declared.Offer.{Offer}

module _ (o : Offer) where
  refused-not : (b : Bool) (n : ℕ) → tells 8 [] ≡ cond b (tells 0 (n ∷ [])) (tells 8 []) → b ≡ false
  refused-not true n q = absurd (let z : ◌≡◌ {A = ℕ} 8 0 = ap (λ (u : Told (List ℕ)). u.number) q in omega arith)
  refused-not false n q = refl

  pub check_refused : verdict None ≡ check_of o → good o.count (offered o) o.limit ≡ false
  unfolding check_of
  check_refused q = refused-not (good o.count (offered o) o.limit) (block_sum (offered o)) q

  blocks_so : (b : Bool) (m n : ℕ) → tells 0 (m ∷ []) ≡ cond b (tells 0 (n ∷ [])) (tells 8 []) → (b ≡ true) × (m ≡ n)
  blocks_so true m n q = (refl, let z : (m ∷ []) ≡ (n ∷ []) = ap (λ (u : Told (List ℕ)). u.state) q in cc)
  blocks_so false m n q = absurd (let z : ◌≡◌ {A = ℕ} 0 8 = ap (λ (u : Told (List ℕ)). u.number) q in omega arith)

  pub check_blocks : (m : ℕ) → verdict (Some m) ≡ check_of o → (good o.count (offered o) o.limit ≡ true) × (m ≡ block_sum (offered o))
  unfolding check_of
  check_blocks m q = blocks_so (good o.count (offered o) o.limit) m (block_sum (offered o)) q

-- what a good table is
module _ (count : ℕ) (es : List Element) (limit : ℕ) (q : good count es limit ≡ true) where
  all_parts : (sized count limit ≡ true) × (ascending 0 (element_ids es) ≡ true) × (summed (block_sum es) ≡ true) × (all healthy es ≡ true)
  unfolding good
  all_parts =
      let split = both (structured count es limit) (all healthy es) q in
      let one = both (sized count limit) (ascending 0 (element_ids es) && (all shaped es && summed (block_sum es))) split.0 in
      let two = both (ascending 0 (element_ids es)) (all shaped es && summed (block_sum es)) one.1 in
      (one.0, two.0, (both (all shaped es) (summed (block_sum es)) two.1).1, split.1)

  pub good-ascending : ascending 0 (element_ids es) ≡ true
  good-ascending = all_parts.1

  pub good-healthy : all healthy es ≡ true
  good-healthy = all_parts.3

  pub good_blocks : 2 ≤ block_sum es
  good_blocks = leb-true 2 (block_sum es) (both (leb 2 (block_sum es)) (leb (block_sum es) (2 ^ 48)) all_parts.2).0

  pub good_count : count ≤ 128
  good_count = leb-true count 128 (both (leb 1 count) (leb count 128) (both (leb 1 count && leb count 128) (leb limit 128) all_parts.0).0).1
