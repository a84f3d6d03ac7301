-- The check: a law for each way out of the code, and that going element by element comes to document 01's rule (`walk_checks`).
use Prim.Native.Nat.{ℕ, ◌+◌, ◌-◌, ◌≤◌, ◌<◌, ◌^◌}
use mathlib.Core.Bool.{Bool, true, false, cond, ◌&&◌, and-false, and-true}
use mathlib.Core.List.{List, [], ◌∷◌}
use mathlib.Core.Path.{◌≡◌, refl, sym, ap, ◌∙◌}
use native.Mathlib.Nat.{add_assoc, add-zero, zero-add}
use native.Mathlib.Numerals.{add-one}
use native.Mathlib.Omega.{arith}
use lib.Dec.{eqb, leb, ltb}
use lib.ListN.{length, take, drop, get_or, drop_of_length-le}
use lib.Seq.{drop-cons}
use borrow.Author.Tests.{le-leb, lt-leb, lt-ltb, le-ltb, eq-eqb, ne_eqb, leb-true, leb-false}
use Rattle.paper.specs.Told.{Told, tells}
use Rattle.slices.specs.Lists.{all}
use Rattle.table.proofs.Ascending.{both}
use Rattle.table.specs.Elements.{ascending}
use Rattle.offer.specs.Check.{sized, shaped, healthy, summed, good, check_of, verdict}
use Rattle.offer.specs.Elements.{offered, blank, element_ids, block_sum}
use Rattle.offer.specs.Private.{may_follow, walk_from}
use Rattle.offer.specs.Promises.{VerdictInjective}
use Rattle.std.proofs.Common.{Option, Some, None}
use Rattle.offer.specs.declared.Element.{Element}
use Rattle.offer.specs.declared.Offer.{Offer}

-- ## The tests

module _ (count limit : ℕ) where
  pub sized-empty : count ≡ 0 → false ≡ sized count limit
  sized-empty e = sym (rw e)

  pub sized_over : 128 < count → false ≡ sized count limit
  sized_over h = sym (rw (lt-leb count 128 h, and-false))

  pub sized_limit : (count ≡ 0 → ⊥) → count ≤ 128 → leb limit 128 ≡ sized count limit
  sized_limit n h = sym (rw (le-leb 1 count (omega arith), le-leb count 128 h))

  pub sized_few : (b : Bool) → b ≡ sized count limit → b ≡ true → count ≤ 128
  sized_few b is_b y = leb-true count 128 (both (leb 1 count) (leb count 128) (both (leb 1 count && leb count 128) (leb limit 128) (sym is_b ∙ y)).0).1

module _ (e : Element) where
  pub shaped_storage : e.kind ≡ 1 → true ≡ shaped e
  shaped_storage k = sym (rw (eq-eqb e.kind 1 k))

  pub shaped-other : (e.kind ≡ 1 → ⊥) → eqb e.blocks 0 ≡ shaped e
  shaped-other k = sym (rw (ne_eqb e.kind 1 k))

leb_same : (a b c d : ℕ) → (a ≤ b → c ≤ d) → (b < a → d < c) → leb a b ≡ leb c d
leb_same a b c d up down = go (leb a b) refl
  where
    go : (t : Bool) → leb a b ≡ t → t ≡ leb c d
    go true e = sym (le-leb c d (up (leb-true a b e)))
    go false e = sym (lt-leb c d (down (leb-false a b e)))

module _ (e : Element) (last total : ℕ) where
  pub follow_order : e.id.0 ≤ last → false ≡ may_follow last total e
  follow_order h = sym (rw (le-ltb last e.id.0 h))

  module _ (above : last < e.id.0) (s : Bool) (is_s : s ≡ shaped e) where
    pub follow_shaped : s ≡ false → false ≡ may_follow last total e
    follow_shaped n = sym (rw (lt-ltb last e.id.0 above, sym is_s ∙ n))

    module _ (fine : s ≡ true) (h : Bool) (is_h : h ≡ healthy e) where
      pub follow_healthy : h ≡ false → false ≡ may_follow last total e
      follow_healthy n = sym (rw (lt-ltb last e.id.0 above, sym is_s ∙ fine, sym is_h ∙ n))

      pub follow_blocks : h ≡ true → total ≤ 2 ^ 48 → leb e.blocks (2 ^ 48 - total) ≡ may_follow last total e
      follow_blocks y t =
          leb_same e.blocks (2 ^ 48 - total) (total + e.blocks) (2 ^ 48) (λ g. omega arith) (λ g. omega arith)
          ∙ sym (rw (lt-ltb last e.id.0 above, sym is_s ∙ fine, sym is_h ∙ y))

-- ## The walk

last_true : (a b c d : Bool) → (a && (b && (c && d))) ≡ true → d ≡ true
last_true a b c d e = (both c d (both b (c && d) (both a (b && (c && d)) e).1).1).1

pub follow_fits : (last total : ℕ) (e : Element) (m : Bool) → m ≡ may_follow last total e → m ≡ true → total + e.blocks ≤ 2 ^ 48
follow_fits last total e m is_m y =
    leb-true (total + e.blocks) (2 ^ 48) (last_true (ltb last e.id.0) (shaped e) (healthy e) (leb (total + e.blocks) (2 ^ 48)) (sym is_m ∙ y))

pub follow_u64 : (last total : ℕ) (e : Element) (m : Bool) → m ≡ may_follow last total e → m ≡ true → total + e.blocks < 2 ^ 64
follow_u64 last total e m is_m y = omega (arith, follow_fits last total e m is_m y)

-- `whole` is what the walk comes to; `so`, the loop's invariant
module _ (es : List Element) (i last total : ℕ) (whole : Option ℕ) (so : walk_from last total (drop i es) ≡ whole) where
  module _ (less : i < length es) (m : Bool) (is_m : m ≡ may_follow last total (get_or es i blank)) where
    here : drop i es ≡ get_or es i blank ∷ drop (i + 1) es
    here = rw (drop-cons es i blank less, add-one i)

    pub walk_bad : m ≡ false → None ≡ whole
    walk_bad e = sym (rw (here, sym is_m ∙ e)) ∙ so

    pub walk_on : m ≡ true → walk_from (get_or es i blank).id.0 (total + (get_or es i blank).blocks) (drop (i + 1) es) ≡ whole
    walk_on e = sym (rw (here, sym is_m ∙ e)) ∙ so

  module _ (done : length es ≤ i) where
    nothing : drop i es ≡ []
    nothing = drop_of_length-le es {i = i} done

    pub walk_few : total < 2 → None ≡ whole
    walk_few h = sym (rw (nothing, lt-leb 2 total h)) ∙ so

    pub walk_end : 2 ≤ total → Some total ≡ whole
    walk_end h = sym (rw (nothing, le-leb 2 total h)) ∙ so

-- ## The walk is the check

abbrev accepts : ℕ → ℕ → List Element → Bool
accepts last total es = (ascending last (element_ids es) && (all shaped es && summed (total + block_sum es))) && all healthy es

abbrev judged : ℕ → ℕ → List Element → Option ℕ
judged last total es = cond (accepts last total es) (Some (total + block_sum es)) None

walk_checks : (last total : ℕ) (es : List Element) → total ≤ 2 ^ 48 → walk_from last total es ≡ judged last total es
walk_checks last total [] h = simp (add-zero, le-leb total (2 ^ 48) h, and-true)
walk_checks last total (e ∷ es) h =
    rw (← add_assoc total e.blocks (block_sum es))
    (go (ltb last e.id.0) (shaped e) (healthy e) (leb (total + e.blocks) (2 ^ 48)) refl (λ g. walk_checks e.id.0 (total + e.blocks) es g))
  where
    go : (a s f b : Bool) → leb (total + e.blocks) (2 ^ 48) ≡ b
        → (total + e.blocks ≤ 2 ^ 48 → walk_from e.id.0 (total + e.blocks) es ≡ judged e.id.0 (total + e.blocks) es)
        → cond (a && (s && (f && b))) (walk_from e.id.0 (total + e.blocks) es) None
        ≡ cond (((a && ascending e.id.0 (element_ids es)) && ((s && all shaped es) && summed (total + e.blocks + block_sum es))) && (f && all healthy es))
        (Some (total + e.blocks + block_sum es)) None
    go true true true true q later = later (leb-true (total + e.blocks) (2 ^ 48) q)
    go true true true false q later =
        let over : 2 ^ 48 < total + e.blocks + block_sum es = omega (arith, leb-false (total + e.blocks) (2 ^ 48) q) in
        simp (lt-leb (total + e.blocks + block_sum es) (2 ^ 48) over, and-false)
    go true true false b q later = simp and-false
    go true false f b q later = simp and-false
    go false s f b q later = refl

module _ (o : Offer) (b : Bool) (is_b : b ≡ sized o.count o.limit) where
  pub check_unsized : b ≡ false → verdict None ≡ check_of o
  unfolding good check_of
  check_unsized n = sym (rw (sym is_b ∙ n))

  pub check_walked : b ≡ true → (r : Option ℕ) → r ≡ walk_from 0 0 (take o.count o.elements) → verdict r ≡ check_of o
  unfolding good check_of
  check_walked y r is_r =
      rw (is_r, walk_checks 0 0 (offered o) (omega arith), zero-add (block_sum (offered o)), sym is_b ∙ y)
      (told ((ascending 0 (element_ids (offered o)) && (all shaped (offered o) && summed (block_sum (offered o)))) && all healthy (offered o)))
    where
      told : (g : Bool) → verdict (cond g (Some (block_sum (offered o))) None) ≡ cond g (tells 0 (block_sum (offered o) ∷ [])) (tells 8 [])
      told true = refl
      told false = refl

-- ## No second answer (specs/Promises)

pub verdict_injective : VerdictInjective
verdict_injective None None e = refl
verdict_injective None (Some n) e = absurd (let z : ◌≡◌ {A = ℕ} 8 0 = ap (λ (u : Told (List ℕ)). u.number) e in omega arith)
verdict_injective (Some m) None e = absurd (let z : ◌≡◌ {A = ℕ} 0 8 = ap (λ (u : Told (List ℕ)). u.number) e in omega arith)
verdict_injective (Some m) (Some n) e = ap Some (let z : (m ∷ []) ≡ (n ∷ []) = ap (λ (u : Told (List ℕ)). u.state) e in cc)
