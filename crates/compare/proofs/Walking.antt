-- The walk, a difference at a time: each passes descriptors and leaves the fewer ahead, so the walk ends.
use Prim.Native.Nat.{ℕ, zero, suc, ◌+◌, ◌-◌, ◌≤◌, ◌<◌, min}
use mathlib.Core.Bool.{Bool, true, false, cond}
use mathlib.Core.List.{List, [], ◌∷◌}
use mathlib.Core.Path.{◌≡◌, refl, sym, ap, subst, ◌∙◌}
use native.Mathlib.Omega.{arith}
use lib.Dec.{ltb}
use borrow.Author.Tests.{ltb-true, ltb-false}
use Rattle.paper.specs.declared.ElementId.{ElementId}
use Rattle.reach.specs.Pages.{count_of, bound_of, end_of}
use Rattle.slices.specs.Lists.{sum}
use Rattle.std.specs.Prelude.{Option, Some, None}
use Rattle.compare.specs.Promises.{WalkEnds}
use Rattle.compare.specs.Walk.{cursor, frame_of, key_at, agree_at, found, step_at, past, next_to, next_of, ahead, after, walk, walk_from}
use Rattle.compare.specs.declared.Cursor.{Cursor}
use Rattle.compare.specs.declared.Frame.{Frame}
use Rattle.compare.specs.declared.Hit.{Hit}
use Rattle.compare.specs.declared.Line.TheVariants.{OnlyOlder, OnlyNewer, Changed}
use Rattle.compare.specs.declared.Line.{Line}
use Rattle.compare.proofs.Places.{inside}
use Rattle.compare.proofs.Steps.{least_first, least_second}

-- ## A step

-- how many descriptors a line passes
abbrev pub passed : Line → ℕ
passed (OnlyOlder k) = 1
passed (OnlyNewer k) = 1
passed (Changed c) = 2

some : (l : Line) → 1 ≤ passed l
some (OnlyOlder k) = omega arith
some (OnlyNewer k) = omega arith
some (Changed c) = omega arith

-- those that a step passes, if it finds anything, and those that it leaves ahead are at most n
abbrev Leaves : List ℕ → List ℕ → ℕ → Option Hit → Type 0
Leaves s t n None = Unit {0}
Leaves s t n (Some d) = passed d.line + ahead s t d.next ≤ n

module _ (s t : List ℕ) where
  step_leaves : (c : Cursor) → Leaves s t (ahead s t c) (step_at s t (frame_of s t) c)
  unfolding step_at
  step_leaves c = by_tests (ltb end.0 (min a b)) refl (ltb a b) refl (ltb b a) refl
    where
      end : ElementId
      end = end_of (bound_of s t)

      a : ℕ
      a = key_at s (count_of s) c.older end

      b : ℕ
      b = key_at t (count_of t) c.newer end

      by_tests : (x : Bool) → ltb end.0 (min a b) ≡ x → (y : Bool) → ltb a b ≡ y → (z : Bool) → ltb b a ≡ z
          → Leaves s t (ahead s t c)
          (cond x None
          (Some
          (cond y (found (OnlyOlder c.older) (c.older + 1) c.newer)
          (cond z (found (OnlyNewer c.newer) c.older (c.newer + 1)) (found (Changed c) (c.older + 1) (c.newer + 1))))))
      by_tests true p y q z r = tt
      by_tests false p true q z r =
          omega (arith, inside s (count_of s) c.older end (least_first a b _ end.0 refl (ltb-false _ _ p) (omega (arith, ltb-true a b q))))
      by_tests false p false q true r =
          omega (arith, inside t (count_of t) c.newer end (least_second a b _ end.0 refl (ltb-false _ _ p) (omega (arith, ltb-true b a r))))
      by_tests false p false q false r =
          omega (
            arith,
            inside s (count_of s) c.older end (least_first a b _ end.0 refl (ltb-false _ _ p) (ltb-false b a r)),
            inside t (count_of t) c.newer end (least_second a b _ end.0 refl (ltb-false _ _ p) (ltb-false a b q)),
          )

  past-leaves : (f : Frame) (n : ℕ) (c : Cursor) → ahead s t (past s t f n c) ≤ ahead s t c
  unfolding past
  past-leaves f zero c = omega arith
  past-leaves f (suc n) c = by_test (agree_at s t f c) (past-leaves f n (cursor (c.older + 1) (c.newer + 1)))
    where
      by_test : (x : Bool) → ahead s t (past s t f n (cursor (c.older + 1) (c.newer + 1))) ≤ ahead s t (cursor (c.older + 1) (c.newer + 1))
          → ahead s t (cond x (past s t f n (cursor (c.older + 1) (c.newer + 1))) c) ≤ ahead s t c
      by_test true l = omega (arith, l)
      by_test false l = omega arith

  more : (x : Option Hit) (m n : ℕ) → m ≤ n → Leaves s t m x → Leaves s t n x
  more None m n l f = tt
  more (Some d) m n l f = omega (arith, f)

  next_leaves : (c : Cursor) → Leaves s t (ahead s t c) (next_of s t c)
  unfolding next_of next_to
  next_leaves c =
      let f : Frame = frame_of s t in
      let c' : Cursor = past s t f (count_of s - c.older) c in
      more (step_at s t f c') (ahead s t c') (ahead s t c) (past-leaves f (count_of s - c.older) c) (step_leaves c')

  -- ## The walk

  module _ (n m : ℕ) (IH : (c : Cursor) → ahead s t c ≤ n → ahead s t c ≤ m → walk s t n c ≡ walk s t m c) where
    after_same : (k : ℕ) (x : Option Hit) → k ≤ suc n → k ≤ suc m → Leaves s t k x → after x (walk s t n) ≡ after x (walk s t m)
    after_same k None l r f = refl
    after_same k (Some d) l r f = ap (λ (ls : List Line). d.line ∷ ls) (IH d.next (omega (arith, f, some d.line)) (omega (arith, f, some d.line)))

  after_none : (x : Option Hit) (rest : Cursor → List Line) → Leaves s t 0 x → [] ≡ after x rest
  after_none None rest f = refl
  after_none (Some d) rest f = absurd (omega (arith, f, some d.line))

  -- with enough room its length does not matter
  walk_same : (n m : ℕ) (c : Cursor) → ahead s t c ≤ n → ahead s t c ≤ m → walk s t n c ≡ walk s t m c
  unfolding walk
  walk_same zero zero c l r = refl
  walk_same zero (suc m) c l r = after_none (next_of s t c) (walk s t m) (more (next_of s t c) (ahead s t c) 0 l (next_leaves c))
  walk_same (suc n) zero c l r = sym (after_none (next_of s t c) (walk s t n) (more (next_of s t c) (ahead s t c) 0 r (next_leaves c)))
  walk_same (suc n) (suc m) c l r = after_same n m (walk_same n m) (ahead s t c) (next_of s t c) l r (next_leaves c)

  walk_on : (c : Cursor) → walk_from s t c ≡ after (next_of s t c) (walk_from s t)
  unfolding walk walk_from
  walk_on c = walk_same (ahead s t c) (suc (ahead s t c)) c (omega arith) (omega arith) ∙ from_there (next_of s t c) (next_leaves c)
    where
      from_there : (x : Option Hit) → Leaves s t (ahead s t c) x → after x (walk s t (ahead s t c)) ≡ after x (walk_from s t)
      from_there None f = refl
      from_there (Some d) f =
          ap (λ (ls : List Line). d.line ∷ ls) (walk_same (ahead s t c) (ahead s t d.next) d.next (omega (arith, f)) (omega arith))

  pub walk_done : (c : Cursor) → None ≡ next_of s t c → walk_from s t c ≡ []
  walk_done c e = walk_on c ∙ ap (λ (x : Option Hit). after x (walk_from s t)) (sym e)

  module _ (c : Cursor) (d : Hit) (e : Some d ≡ next_of s t c) where
    pub walk-found : walk_from s t c ≡ d.line ∷ walk_from s t d.next
    walk-found = walk_on c ∙ ap (λ (x : Option Hit). after x (walk_from s t)) (sym e)

    pub found-leaves : ahead s t d.next < ahead s t c
    found-leaves =
        let left : passed d.line + ahead s t d.next ≤ ahead s t c = subst (Leaves s t (ahead s t c)) (sym e) (next_leaves c) in
        omega (arith, left, some d.line)

  after_few : (x : Option Hit) (n : ℕ) (rest : Cursor → List Line) → ((c : Cursor) → sum passed (rest c) ≤ ahead s t c) → Leaves s t n x → sum passed (after x rest) ≤ n
  after_few None n rest l f = omega arith
  after_few (Some d) n rest l f = omega (arith, f, l d.next)

  walk_few : (n : ℕ) (c : Cursor) → sum passed (walk s t n c) ≤ ahead s t c
  unfolding walk
  walk_few zero c = omega arith
  walk_few (suc n) c = after_few (next_of s t c) (ahead s t c) (walk s t n) (walk_few n) (next_leaves c)

  -- its lines pass no more descriptors than lie ahead
  pub few : (c : Cursor) → sum passed (walk_from s t c) ≤ ahead s t c
  unfolding walk_from
  few c = walk_few (ahead s t c) c

pub walk_ends : WalkEnds
walk_ends s t c = walk_on s t c
