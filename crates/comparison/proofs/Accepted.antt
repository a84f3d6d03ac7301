-- Two pages that were accepted: both were accepted for one request, so they are short, and the walk over them gives exactly the differences.
use Prim.Native.Nat.{ℕ, ◌≤◌}
use mathlib.Core.Bool.{Bool, true, false, cond}
use mathlib.Core.List.{List, [], ◌++◌}
use mathlib.Core.Path.{◌≡◌, refl, sym, ap}
use native.Mathlib.Omega.{arith}
use lib.Dec.{ltb}
use lib.ListN.{length}
use borrow.Author.Tests.{ltb-false}
use Rattle.compare.proofs.Ascending.{count_room}
use Rattle.compare.proofs.Merging.{walk_gives}
use Rattle.compare.specs.Differences.{differences_of}
use Rattle.compare.specs.Walk.{first, walk_from}
use Rattle.compare.specs.declared.Cursor.{Cursor}
use Rattle.ending.specs.Ending.{last_line}
use Rattle.paper.specs.Told.{tells}
use Rattle.paper.specs.declared.ElementId.{ElementId}
use Rattle.reach.specs.Opening.{Values, bound, turn, open_of, accepted, judged}
use Rattle.reach.specs.Pages.{count_of, bound_of}
use Rattle.reach.specs.declared.Turn.TheVariants.{Older, Newer}
use Rattle.reach.specs.declared.Turn.{Turn}
use Rattle.request.specs.Requests.{request_of}
use Rattle.std.specs.Prelude.{Option}
use Rattle.comparison.specs.Comparison.{lines_of, differences_for, comparison_of}
use Rattle.comparison.specs.Private.{is_accepted, lines_from}

-- ## Both were accepted

tag : Values → ℕ
tag (bound b) = 0
tag (turn w) = 1

refused : {A : Type 0} (w : Turn) (b : Option ElementId) → turn w ≡ bound b → A
unfolding tag
refused w b e = absurd (let away : ◌≡◌ {A = ℕ} 1 0 = ap tag e in omega arith)

opened : (x y : Bool) (m b : Option ElementId)
    → (cond x (cond y (tells 0 (bound m)) (tells 9 (turn Newer))) (tells 9 (turn Older))).state ≡ bound b → (x ≡ true) × (y ≡ true)
opened true true m b e = (refl, refl)
opened true false m b e = refused Newer b e
opened false y m b e = refused Older b e

module _ (s t : List ℕ) (b : Option ElementId) where
  both_accepted : (judged s t).state ≡ bound b → (length s ≤ 65536) × (accepted s (request_of s) ≡ true) × (accepted t (request_of s) ≡ true)
  unfolding judged
  both_accepted = by_test (ltb 65536 (length s)) refl
    where
      by_test : (x : Bool) → ltb 65536 (length s) ≡ x → (cond x (tells 9 (turn Older)) (open_of s t (request_of s))).state ≡ bound b
          → (length s ≤ 65536) × (accepted s (request_of s) ≡ true) × (accepted t (request_of s) ≡ true)
      by_test true e v = refused Older b v
      by_test false e v =
          let both = opened (accepted s (request_of s)) (accepted t (request_of s)) (bound_of s t) b v in
          (ltb-false _ _ e, both.0, both.1)

-- ## They are short

-- 128 pages have room for 2,047 descriptors
pub counts : (s t : List ℕ) (b : Option ElementId) → (judged s t).state ≡ bound b → (count_of s ≤ 2047) × (count_of t ≤ 2047)
counts s t b e =
    let (short, in_s, in_t) = both_accepted s t b e in
    (omega (arith, count_room s (request_of s) in_s), omega (arith, count_room t (request_of s) in_t))

-- ## The walk over them

pub lines_none : (s t : List ℕ) (c : Cursor) → lines_from false s t c ≡ []
unfolding lines_from
lines_none s t c = refl

lines_walked : (s t : List ℕ) → walk_from s t first ≡ differences_of s t → lines_from true s t first ≡ lines_of s t (differences_of s t)
unfolding lines_from
lines_walked s t e = ap (lines_of s t) e

walked : (s t : List ℕ) → lines_from (is_accepted (judged s t).state) s t first ≡ lines_of s t (differences_for s t (judged s t).state)
walked s t = by_state (judged s t).state refl
  where
    by_state : (v : Values) → (judged s t).state ≡ v → lines_from (is_accepted v) s t first ≡ lines_of s t (differences_for s t v)
    by_state (turn w) e = lines_none s t first
    by_state (bound b) e = let (short, in_s, in_t) = both_accepted s t b e in lines_walked s t (walk_gives s t (request_of s) in_s in_t)

pub by_walk : (s t : List ℕ) → comparison_of s t ≡ lines_from (is_accepted (judged s t).state) s t first ++ last_line (judged s t).state
unfolding comparison_of
by_walk s t = sym (rw (walked s t))
