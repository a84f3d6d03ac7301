-- Pages that look alike are compared alike (specs/Promises): the differences and the walk go by how many descriptors a page has and by what
-- stands at each number.
use Prim.Native.Nat.{ℕ, zero, suc, ◌+◌, ◌-◌, min}
use mathlib.Core.Bool.{cond, ◌&&◌}
use mathlib.Core.List.{List, [], ◌∷◌, ◌++◌}
use mathlib.Core.Path.{◌≡◌, refl}
use lib.Dec.{eqb, leb, ltb}
use Rattle.paper.specs.declared.ElementId.{ElementId}
use Rattle.reach.proofs.Reserved.{count_same, element-same, bound_same}
use Rattle.reach.specs.Pages.{bound_of, end_of}
use Rattle.reader.specs.Reserved.{LooksAlike}
use Rattle.std.specs.Prelude.{Some, None}
use Rattle.words.specs.declared.Order.TheVariants.{Little}
use Rattle.compare.specs.Differences.{alike, Standing, absent, stands, standing_in, standing, difference, difference_at, differences_in, differences_of}
use Rattle.compare.specs.Promises.{ReservedUncompared}
use Rattle.compare.specs.Walk.{cursor, frame_of, key_at, agree_at, found_by, step_at, past, next_to, next_of}
use Rattle.compare.specs.declared.Cursor.{Cursor}
use Rattle.compare.specs.declared.Frame.{Frame}
use Rattle.compare.specs.declared.Line.TheVariants.{Changed}

-- ## One page

module _ (s s' : List ℕ) (same : LooksAlike Little s s') where
  standing-below : (id : ElementId) (n : ℕ) → standing_in s n id ≡ standing_in s' n id
  standing-below id zero = refl
  standing-below id (suc n) = λ i. cond (eqb (element-same s s' same n i).id.0 id.0) (stands n) (standing-below id n i)

  standing-same : (id : ElementId) → standing s id ≡ standing s' id
  unfolding standing
  standing-same id = λ i. standing-below id (count_same s s' same i) i

  key_same : (count k : ℕ) (end : ElementId) → key_at s count k end ≡ key_at s' count k end
  unfolding key_at
  key_same count k end = λ i. cond (ltb k count) (element-same s s' same k i).id.0 (end.0 + 1)

-- ## Both

module _ (s s' t t' : List ℕ) (older : LooksAlike Little s s') (newer : LooksAlike Little t t') where
  difference-same : (x y : Standing) → difference s t x y ≡ difference s' t' x y
  difference-same absent absent = refl
  difference-same (stands k) absent = refl
  difference-same absent (stands m) = refl
  difference-same (stands k) (stands m) = λ i.
      cond (alike (element-same s s' older k i) (element-same t t' newer m i)) [] (Changed (record { older = k; newer = m }) ∷ [])

  difference_at_lem : (id : ElementId) → difference_at s t id ≡ difference_at s' t' id
  unfolding difference_at
  difference_at_lem id = λ i. difference-same (standing-same s s' older id i) (standing-same t t' newer id i) i

  differences_in_lem : (n from : ℕ) → differences_in s t from n ≡ differences_in s' t' from n
  unfolding differences_in
  differences_in_lem zero from = refl
  differences_in_lem (suc n) from = λ i. difference_at_lem (record { 0 = from }) i ++ differences_in_lem n (suc from) i

  end_same : end_of (bound_of s t) ≡ end_of (bound_of s' t')
  end_same = λ i. end_of (bound_same s s' t t' older newer i)

  frame_same : frame_of s t ≡ frame_of s' t'
  frame_same = λ i. record { last = cursor (count_same s s' older i) (count_same t t' newer i); end = end_same i }

  differences_same : differences_of s t ≡ differences_of s' t'
  unfolding differences_of
  differences_same = λ i. differences_in_lem (end_same i).0 1 i

  module _ (f : Frame) where
    agree_same : (c : Cursor) → agree_at s t f c ≡ agree_at s' t' f c
    unfolding agree_at
    agree_same c = λ i.
        let a = key_same s s' older f.last.older c.older f.end i in
        eqb a (key_same t t' newer f.last.newer c.newer f.end i)
        && (leb a f.end.0 && alike (element-same s s' older c.older i) (element-same t t' newer c.newer i))

    step_same : (c : Cursor) → step_at s t f c ≡ step_at s' t' f c
    unfolding step_at
    step_same c = λ i.
        let a = key_same s s' older f.last.older c.older f.end i in
        let b = key_same t t' newer f.last.newer c.newer f.end i in
        cond (ltb f.end.0 (min a b)) None (Some (found_by a b c))

    past_same : (n : ℕ) (c : Cursor) → past s t f n c ≡ past s' t' f n c
    unfolding past
    past_same zero c = refl
    past_same (suc n) c = λ i. cond (agree_same c i) (past_same n (cursor (c.older + 1) (c.newer + 1)) i) c

    next_to_lem : (c : Cursor) → next_to s t f c ≡ next_to s' t' f c
    unfolding next_to
    next_to_lem c = λ i. step_same (past_same (f.last.older - c.older) c i) i

  next_same : (c : Cursor) → next_of s t c ≡ next_of s' t' c
  unfolding next_of
  next_same c = λ i. next_to_lem (frame_same i) c i

pub reserved_uncompared : ReservedUncompared
reserved_uncompared s s' t t' older newer = (differences_same s s' t t' older newer, next_same s s' t t' older newer)
