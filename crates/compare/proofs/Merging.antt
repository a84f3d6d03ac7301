-- The walk over two pages that were accepted gives exactly the differences (specs/Promises).
use Prim.Native.Nat.{ℕ, zero, suc, ◌+◌, ◌-◌, ◌≤◌, ◌<◌, min}
use mathlib.Core.Bool.{Bool, true, false, cond}
use mathlib.Core.List.{List, [], ◌∷◌, ◌++◌}
use mathlib.Core.Path.{◌≡◌, refl, sym, ap, ◌∙◌}
use native.Mathlib.Nat.{le-min, min-le_left, min-le_right}
use native.Mathlib.Numerals.{add-one}
use native.Mathlib.Omega.{arith}
use lib.Dec.{eqb, ltb}
use borrow.Author.Tests.{ltb-true, ltb-false, eqb-true, eqb-false}
use Rattle.paper.specs.declared.ElementId.{ElementId}
use Rattle.reach.specs.Pages.{count_of, element_at, bound_of, end_of}
use Rattle.std.specs.Prelude.{Option, Some, None}
use Rattle.compare.specs.Differences.{alike, absent, standing, difference_at, differences_in, differences_of}
use Rattle.compare.specs.Promises.{WalkGives}
use Rattle.compare.specs.Walk.{cursor, first, frame_of, key_at, agree_at, found_by, step_at, next_of, ahead, after, walk_from}
use Rattle.compare.specs.declared.Cursor.{Cursor}
use Rattle.compare.specs.declared.Hit.{Hit}
use Rattle.compare.specs.declared.Line.TheVariants.{OnlyOlder, OnlyNewer, Changed}
use Rattle.compare.specs.declared.Line.{Line}
use Rattle.compare.proofs.Ascending.{Ascends, ascends}
use Rattle.compare.proofs.Places.{inside}
use Rattle.compare.proofs.Standings.{Split, between, nearer_to, not-below, stands_there, past_it}
use Rattle.compare.proofs.Steps.{agree_other, agree_beyond, agree_if, step_by_lem, step_done, step_found, found_older, found_newer, found-changed, least_first, least_second, next_on, next_here}
use Rattle.compare.proofs.Walking.{walk_done, walk-found, walk_ends}

-- an identifier of a number
abbrev numbered : ℕ → ElementId
numbered n = record { 0 = n }

from_first : (s : List ℕ) → Ascends s → Split s 0 1
from_first s up = record { below = λ k l n. absurd (omega arith); above = λ k l n. up.some k n }

module _ (s t : List ℕ) where
  -- ## Identifiers that stand nowhere

  at_none : (id : ElementId) → standing s id ≡ absent → standing t id ≡ absent → difference_at s t id ≡ []
  unfolding difference_at
  at_none id p q = rw (p, q)

  skip : (m n k a b : ℕ) → k ≡ m + n → b ≡ a + m → ((id : ElementId) → a ≤ id.0 → id.0 < b → (standing s id ≡ absent) × (standing t id ≡ absent))
      → differences_in s t a k ≡ differences_in s t b n
  unfolding differences_in
  skip zero n k a b is_k is_b f =
      let all : k ≡ n = omega (arith, is_k) in
      let here : a ≡ b = omega (arith, is_b) in
      rw (all, here)
  skip (suc m) n k a b is_k is_b f =
      let one : k ≡ suc (m + n) = omega (arith, is_k) in
      let none = f (numbered a) (omega arith) (omega (arith, is_b)) in
      rw (one, at_none (numbered a) none.0 none.1) (skip m n (m + n) (suc a) b refl (omega (arith, is_b)) (λ id l h. f id (omega (arith, l)) h))

  abbrev end : ElementId
  end = end_of (bound_of s t)

  -- ## From one cursor, if the walk is right from those further on

  Right : Cursor → ℕ → ℕ → Type 0
  Right c a n = walk_from s t c ≡ differences_in s t a n

  module _ (up_s : Ascends s) (up_t : Ascends t) (c : Cursor) (a n : ℕ) (all : a + n ≡ end.0 + 1) (of_s : Split s c.older a) (of_t : Split t c.newer a)
      (further : (d : Cursor) (b m : ℕ) → ahead s t d < ahead s t c → b + m ≡ end.0 + 1 → Split s d.older b → Split t d.newer b → walk_from s t d ≡ differences_in s t b m) where
    x : ℕ
    x = key_at s (count_of s) c.older end

    y : ℕ
    y = key_at t (count_of t) c.newer end

    nowhere : (m : ℕ) → m ≤ x → m ≤ y → (id : ElementId) → a ≤ id.0 → id.0 < m → (standing s id ≡ absent) × (standing t id ≡ absent)
    unfolding x y
    nowhere m l r id low high =
        (between s up_s c.older end a of_s id low (omega (arith, l, high)), between t up_t c.newer end a of_t id low (omega (arith, r, high)))

    -- the differences from a on, where the next identifier is m
    from_next : (m : ℕ) → a ≤ m → m ≤ x → m ≤ y → m ≤ end.0 → differences_in s t a n ≡ difference_at s t (numbered m) ++ differences_in s t (m + 1) (end.0 - m)
    unfolding differences_in
    from_next m low l r in_end =
        skip (m - a) (suc (end.0 - m)) n a m (omega (arith, all)) (omega arith) (nowhere m l r)
        ∙ ap (λ (k : ℕ). difference_at s t (numbered m) ++ differences_in s t k (end.0 - m)) (sym (add-one m))

    steps : (r : Option Hit) → agree_at s t (frame_of s t) c ≡ false → r ≡ step_at s t (frame_of s t) c → r ≡ next_of s t c
    unfolding next_of
    steps r n is_r = next_here s t (frame_of s t) c n r is_r

    finds : (r : Hit) → agree_at s t (frame_of s t) c ≡ false → min x y ≤ end.0 → r ≡ found_by x y c → Some r ≡ next_of s t c
    unfolding x y
    finds r n l is_r = steps (Some r) n (step_by_lem s t (frame_of s t) c x y refl refl (Some r) (step_found x y end c (min x y) refl l r is_r))

    apart : (x ≡ y → ⊥) → agree_at s t (frame_of s t) c ≡ false
    unfolding x y
    apart n = sym (agree_other s t (frame_of s t) c x y refl refl n)

    beyond : end.0 < x → agree_at s t (frame_of s t) c ≡ false
    unfolding x y
    beyond l = by_test (eqb x y) refl
      where
        by_test : (b : Bool) → eqb x y ≡ b → agree_at s t (frame_of s t) c ≡ false
        by_test true p = sym (agree_beyond s t (frame_of s t) c x y refl refl (eqb-true x y p) l)
        by_test false p = apart (eqb-false x y p)

    -- ## The four ways

    none_left : end.0 < x → end.0 < y → Right c a n
    unfolding x y differences_in Right
    none_left l r =
        walk_done s t c (steps None (beyond l) (step_by_lem s t (frame_of s t) c x y refl refl None (step_done x y end c (min x y) refl (le-min l r))))
        ∙ sym (skip n 0 n a (a + n) (omega arith) refl (nowhere (a + n) (omega (arith, all)) (omega (arith, all))))

    only_older : x < y → x ≤ end.0 → Right c a n
    unfolding x y Right difference_at
    only_older l in_end =
        let low : a ≤ x = not-below s up_s c.older end a of_s x refl in_end in
        let inside_s : c.older < count_of s = inside s (count_of s) c.older end in_end in
        let line : difference_at s t (numbered x) ≡ OnlyOlder c.older ∷ [] =
        rw (stands_there s up_s c.older end a of_s x refl in_end, between t up_t c.newer end a of_t (numbered x) low l) in
        walk-found s t c _ (finds _ (apart (λ e. omega arith)) (omega (arith, min-le_left x y)) (found_older x y c _ l refl))
        ∙ ap (λ (ls : List Line). OnlyOlder c.older ∷ ls)
        (further (cursor (c.older + 1) c.newer) (x + 1) (end.0 - x) (omega (arith, inside_s)) (omega arith)
        (past_it s up_s c.older end a of_s x refl in_end)
        (nearer_to t up_t c.newer end a of_t (x + 1) (omega (arith, low)) (omega arith)))
        ∙ ap (λ (ls : List Line). ls ++ differences_in s t (x + 1) (end.0 - x)) (sym line)
        ∙ sym (from_next x low (omega arith) (omega arith) in_end)

    only_newer : y < x → y ≤ end.0 → Right c a n
    unfolding x y Right difference_at
    only_newer l in_end =
        let low : a ≤ y = not-below t up_t c.newer end a of_t y refl in_end in
        let inside_t : c.newer < count_of t = inside t (count_of t) c.newer end in_end in
        let line : difference_at s t (numbered y) ≡ OnlyNewer c.newer ∷ [] =
        rw (between s up_s c.older end a of_s (numbered y) low l, stands_there t up_t c.newer end a of_t y refl in_end) in
        walk-found s t c _ (finds _ (apart (λ e. omega arith)) (omega (arith, min-le_right x y)) (found_newer x y c _ l refl))
        ∙ ap (λ (ls : List Line). OnlyNewer c.newer ∷ ls)
        (further (cursor c.older (c.newer + 1)) (y + 1) (end.0 - y) (omega (arith, inside_t)) (omega arith)
        (nearer_to s up_s c.older end a of_s (y + 1) (omega (arith, low)) (omega arith))
        (past_it t up_t c.newer end a of_t y refl in_end))
        ∙ ap (λ (ls : List Line). ls ++ differences_in s t (y + 1) (end.0 - y)) (sym line)
        ∙ sym (from_next y low (omega arith) (omega arith) in_end)

    module _ (same : x ≡ y) (in_end : x ≤ end.0) where
      low : a ≤ x
      unfolding x
      low = not-below s up_s c.older end a of_s x refl in_end

      on : Cursor
      on = cursor (c.older + 1) (c.newer + 1)

      rest : walk_from s t on ≡ differences_in s t (x + 1) (end.0 - x)
      unfolding x y on
      rest =
          further (cursor (c.older + 1) (c.newer + 1)) (x + 1) (end.0 - x) (omega (arith, inside s (count_of s) c.older end in_end)) (omega (arith, in_end))
          (past_it s up_s c.older end a of_s x refl in_end)
          (past_it t up_t c.newer end a of_t x same in_end)

      both_stand : difference_at s t (numbered x) ≡ cond (alike (element_at s c.older) (element_at t c.newer)) [] (Changed c ∷ [])
      unfolding x y difference_at
      both_stand = rw (stands_there s up_s c.older end a of_s x refl in_end, stands_there t up_t c.newer end a of_t x same in_end)

      agree : alike (element_at s c.older) (element_at t c.newer) ≡ agree_at s t (frame_of s t) c
      unfolding x y
      agree = agree_if s t (frame_of s t) c x y refl refl same in_end

      unchanged : alike (element_at s c.older) (element_at t c.newer) ≡ true → walk_from s t c ≡ difference_at s t (numbered x) ++ differences_in s t (x + 1) (end.0 - x)
      unfolding next_of on
      unchanged e =
          let none : difference_at s t (numbered x) ≡ [] = both_stand ∙ ap (λ (b : Bool). cond b [] (Changed c ∷ [])) e in
          let next : next_of s t c ≡ next_of s t on = next_on s t (frame_of s t) c (sym agree ∙ e) in
          walk_ends s t c ∙ ap (λ (r : Option Hit). after r (walk_from s t)) next ∙ sym (walk_ends s t on) ∙ rest
          ∙ ap (λ (ls : List Line). ls ++ differences_in s t (x + 1) (end.0 - x)) (sym none)

      changed : alike (element_at s c.older) (element_at t c.newer) ≡ false → walk_from s t c ≡ difference_at s t (numbered x) ++ differences_in s t (x + 1) (end.0 - x)
      unfolding x y on
      changed e =
          let line : difference_at s t (numbered x) ≡ Changed c ∷ [] = both_stand ∙ ap (λ (b : Bool). cond b [] (Changed c ∷ [])) e in
          walk-found s t c _
          (finds _ (sym agree ∙ e) (omega (arith, in_end, min-le_left x y)) (found-changed x y c _ (omega (arith, same)) (omega (arith, same)) refl))
          ∙ ap (λ (ls : List Line). Changed c ∷ ls) rest
          ∙ ap (λ (ls : List Line). ls ++ differences_in s t (x + 1) (end.0 - x)) (sym line)

      in_both : Right c a n
      unfolding Right
      in_both = by_test (alike (element_at s c.older) (element_at t c.newer)) refl ∙ sym (from_next x low (omega arith) (omega (arith, same)) in_end)
        where
          by_test : (b : Bool) → alike (element_at s c.older) (element_at t c.newer) ≡ b → walk_from s t c ≡ difference_at s t (numbered x) ++ differences_in s t (x + 1) (end.0 - x)
          by_test true e = unchanged e
          by_test false e = changed e

    right_here : Right c a n
    right_here = by_tests (ltb x y) refl (ltb y x) refl (ltb end.0 (min x y)) refl
      where
        by_tests : (p : Bool) → ltb x y ≡ p → (q : Bool) → ltb y x ≡ q → (r : Bool) → ltb end.0 (min x y) ≡ r → Right c a n
        by_tests p e q f true g =
            none_left (omega (arith, ltb-true end.0 (min x y) g, min-le_left x y)) (omega (arith, ltb-true end.0 (min x y) g, min-le_right x y))
        by_tests true e q f false g = only_older (ltb-true x y e) (least_first x y (min x y) end.0 refl (ltb-false end.0 (min x y) g) (omega (arith, ltb-true x y e)))
        by_tests false e true f false g = only_newer (ltb-true y x f) (least_second x y (min x y) end.0 refl (ltb-false end.0 (min x y) g) (omega (arith, ltb-true y x f)))
        by_tests false e false f false g =
            in_both (omega (arith, ltb-false x y e, ltb-false y x f)) (least_first x y (min x y) end.0 refl (ltb-false end.0 (min x y) g) (ltb-false y x f))

  -- ## From every cursor

  right : (up_s : Ascends s) (up_t : Ascends t) (left : ℕ) (c : Cursor) (a n : ℕ) → ahead s t c ≤ left → a + n ≡ end.0 + 1 → Split s c.older a → Split t c.newer a
      → walk_from s t c ≡ differences_in s t a n
  unfolding Right
  right up_s up_t zero c a n l all of_s of_t = right_here up_s up_t c a n all of_s of_t (λ d b m less. absurd (omega (arith, l, less)))
  right up_s up_t (suc left) c a n l all of_s of_t =
      right_here up_s up_t c a n all of_s of_t (λ d b m less. right up_s up_t left d b m (omega (arith, l, less)))

pub walk_gives : WalkGives
unfolding differences_of
walk_gives s t q of_s of_t =
    let up_s : Ascends s = ascends s q of_s in
    let up_t : Ascends t = ascends t q of_t in
    right s t up_s up_t (ahead s t first) first 1 (end_of (bound_of s t)).0 (omega arith) (omega arith) (from_first s up_s) (from_first t up_t)
