-- What stands at a cursor, and the next difference: a law for each way out, and one for each turn of the loop.
use Prim.Native.Nat.{ℕ, zero, suc, ◌+◌, ◌-◌, ◌≤◌, ◌<◌, min}
use mathlib.Core.Bool.{Bool, true, false, cond, ◌&&◌}
use mathlib.Core.List.{List}
use mathlib.Core.Path.{◌≡◌, refl, sym, ap, ◌∙◌}
use native.Mathlib.Nat.{min-eq_left, min-eq_right}
use native.Mathlib.Omega.{arith}
use lib.Dec.{eqb, leb, ltb}
use borrow.Author.Tests.{eq-eqb, ne_eqb, le-leb, lt-leb, lt-ltb, le-ltb, leb-true, eqb-true}
use Rattle.layout.specs.declared.Descriptor.{Descriptor}
use Rattle.paper.specs.declared.ElementId.{ElementId}
use Rattle.reach.specs.Pages.{element_at}
use Rattle.reader.proofs.LayoutTheorem.{and_both}
use Rattle.std.specs.Prelude.{Option, Some, None}
use Rattle.compare.specs.Differences.{alike}
use Rattle.compare.specs.Private.{is_inside, agree_by, step_by, Pairs}
use Rattle.compare.specs.Walk.{cursor, frame_of, key_at, agree_at, found, found_by, step_at, past, next_to, next_of}
use Rattle.compare.specs.declared.Cursor.{Cursor}
use Rattle.compare.specs.declared.Frame.{Frame}
use Rattle.compare.specs.declared.Hit.{Hit}
use Rattle.compare.specs.declared.Line.TheVariants.{OnlyOlder, OnlyNewer, Changed}
use Rattle.compare.proofs.Places.{id_whole, key_there, inside, inside_both}

-- ## At a cursor

module _ (a b m end : ℕ) (is_m : m ≡ min a b) (low : m ≤ end) where
  pub least_first : a ≤ b → a ≤ end
  least_first l = omega (arith, is_m, min-eq_left l)

  pub least_second : b ≤ a → b ≤ end
  least_second l = omega (arith, is_m, min-eq_right l)

module _ (s t : List ℕ) (f : Frame) (c : Cursor) (a b : ℕ) (is_a : a ≡ key_at s f.last.older c.older f.end) (is_b : b ≡ key_at t f.last.newer c.newer f.end) where
  pub agree_other : (a ≡ b → ⊥) → false ≡ agree_at s t f c
  unfolding agree_at
  agree_other n = sym (rw (← is_a, ← is_b, ne_eqb _ _ n))

  pub agree_beyond : a ≡ b → f.end.0 < a → false ≡ agree_at s t f c
  unfolding agree_at
  agree_beyond e l = sym (rw (← is_a, ← is_b, eq-eqb _ _ e, lt-leb _ _ l))

  pub agree_if : a ≡ b → a ≤ f.end.0 → alike (element_at s c.older) (element_at t c.newer) ≡ agree_at s t f c
  unfolding agree_at
  agree_if i l = sym (rw (← is_a, ← is_b, eq-eqb _ _ i, le-leb _ _ l))

  pub step_by_lem : (x : Option Hit) → x ≡ step_by a b f.end c → x ≡ step_at s t f c
  unfolding step_by step_at
  step_by_lem x is_x = is_x ∙ sym (rw (← is_a, ← is_b))

module _ (a b : ℕ) (c : Cursor) (x : Hit) where
  pub found_older : a < b → x ≡ found (OnlyOlder c.older) (c.older + 1) c.newer → x ≡ found_by a b c
  found_older l is_x = is_x ∙ sym (rw (lt-ltb _ _ l))

  pub found_newer : b < a → x ≡ found (OnlyNewer c.newer) c.older (c.newer + 1) → x ≡ found_by a b c
  found_newer l is_x = is_x ∙ sym (rw (le-ltb a b (omega arith), lt-ltb _ _ l))

  pub found-changed : b ≤ a → a ≤ b → x ≡ found (Changed c) (c.older + 1) (c.newer + 1) → x ≡ found_by a b c
  found-changed l g is_x = is_x ∙ sym (rw (le-ltb _ _ g, le-ltb _ _ l))

module _ (a b : ℕ) (end : ElementId) (c : Cursor) (m : ℕ) (is_m : m ≡ min a b) where
  pub step_done : end.0 < m → None ≡ step_by a b end c
  unfolding step_by
  step_done l = sym (rw (← is_m, lt-ltb _ _ l))

  pub step_found : m ≤ end.0 → (x : Hit) → x ≡ found_by a b c → Some x ≡ step_by a b end c
  unfolding step_by
  step_found l x is_x = ap Some is_x ∙ sym (rw (← is_m, le-ltb _ _ l))

-- one element in both pages
module _ (a b : ℕ) (end : ElementId) (c : Cursor) (same : a ≡ b) where
  pub same_done : end.0 < a → None ≡ step_by a b end c
  same_done = step_done a b end c a (sym (min-eq_left (omega arith)))

  pub same-found : a ≤ end.0 → (x : Hit) → x ≡ found (Changed c) (c.older + 1) (c.newer + 1) → Some x ≡ step_by a b end c
  same-found l x is_x = step_found a b end c a (sym (min-eq_left (omega arith))) l x (found-changed a b c x (omega arith) (omega arith) is_x)

-- ## Past what agrees

-- a key past the page is above the end, so that two keys up to it stand in both
by_keys : (x y : Bool) (i j end : ℕ) (r : Bool) → (x && y) && (eqb i j && (leb i end && r)) ≡ eqb (cond x i (end + 1)) (cond y j (end + 1)) && (leb (cond x i (end + 1)) end && r)
by_keys true true i j end r = refl
by_keys true false i j end r = sym (by_test (eqb i (end + 1)) refl)
  where
    by_test : (b : Bool) → eqb i (end + 1) ≡ b → b && (leb i end && r) ≡ false
    by_test true e = rw (lt-leb i end (omega (arith, eqb-true i (end + 1) e)))
    by_test false e = refl
by_keys false y i j end r = sym (by_test (eqb (end + 1) (cond y j (end + 1))))
  where
    by_test : (b : Bool) → b && (leb (end + 1) end && r) ≡ false
    by_test true = rw (lt-leb (end + 1) end (omega arith))
    by_test false = refl

module _ (s t : List ℕ) (f : Frame) where
  agree_keys : (c : Cursor) → is_inside f.last c && agree_by (element_at s c.older) (element_at t c.newer) f.end ≡ agree_at s t f c
  unfolding agree_at key_at
  agree_keys c =
      by_keys (ltb c.older f.last.older) (ltb c.newer f.last.newer) (element_at s c.older).id.0 (element_at t c.newer).id.0 f.end.0
      (alike (element_at s c.older) (element_at t c.newer))

  agree_inside : (c : Cursor) → agree_at s t f c ≡ true → (c.older < f.last.older) × (c.newer < f.last.newer)
  unfolding agree_at
  agree_inside c e =
      let a : ℕ = key_at s f.last.older c.older f.end in
      let b : ℕ = key_at t f.last.newer c.newer f.end in
      let same = and_both (eqb a b) (leb a f.end.0 && alike (element_at s c.older) (element_at t c.newer)) e in
      let within = and_both (leb a f.end.0) (alike (element_at s c.older) (element_at t c.newer)) same.1 in
      let low : a ≤ f.end.0 = leb-true _ _ within.0 in
      (inside s f.last.older c.older f.end low, inside t f.last.newer c.newer f.end (omega (arith, low, eqb-true a b same.0)))

  past_on : (c : Cursor) → agree_at s t f c ≡ true
      → past s t f (f.last.older - c.older) c ≡ past s t f (f.last.older - (c.older + 1)) (cursor (c.older + 1) (c.newer + 1))
  unfolding past
  past_on c so =
      let left : f.last.older - c.older ≡ suc (f.last.older - (c.older + 1)) = omega (arith, (agree_inside c so).0) in
      rw (left, so)

  stays : (c : Cursor) (n : ℕ) → agree_at s t f c ≡ false → past s t f n c ≡ c
  unfolding past
  stays c zero off = refl
  stays c (suc n) off = rw off

  agree_by_lem : (c : Cursor) → (c.older < f.last.older) × (c.newer < f.last.newer) → (d e : Descriptor) → d ≡ element_at s c.older → e ≡ element_at t c.newer
      → (r : Bool) → r ≡ agree_by d e f.end → r ≡ agree_at s t f c
  agree_by_lem c within d e is_d is_e r is_r =
      is_r ∙ (λ i. agree_by (is_d i) (is_e i) f.end) ∙ sym (rw (lt-ltb _ _ within.0, lt-ltb _ _ within.1)) ∙ agree_keys c

  -- a turn, where b says whether the cursor lies inside
  module _ (c : Cursor) (b : Bool) (is_b : b ≡ is_inside f.last c) where
    pub turn_outside : b ≡ false → (p : Cursor) → p ≡ past s t f (f.last.older - c.older) c → c ≡ p
    turn_outside off p inv =
        let out : agree_at s t f c ≡ false = sym (agree_keys c) ∙ rw (sym is_b ∙ off) in
        sym (inv ∙ stays c (f.last.older - c.older) out)

    module _ (so : b ≡ true) (d e : Descriptor) (is_d : d ≡ element_at s c.older) (is_e : e ≡ element_at t c.newer) (r : Bool) (is_r : r ≡ agree_by d e f.end) where
      meets : r ≡ agree_at s t f c
      meets = agree_by_lem c (inside_both f.last c b is_b so) d e is_d is_e r is_r

      pub turn_again : r ≡ true → (p : Cursor) → p ≡ past s t f (f.last.older - c.older) c
          → p ≡ past s t f (f.last.older - (c.older + 1)) (cursor (c.older + 1) (c.newer + 1))
      turn_again yes_r p inv = inv ∙ past_on c (sym meets ∙ yes_r)

      pub turn_ends : r ≡ false → (p : Cursor) → p ≡ past s t f (f.last.older - c.older) c → c ≡ p
      turn_ends off p inv = sym (inv ∙ stays c (f.last.older - c.older) (sym meets ∙ off))

  pub next_on : (c : Cursor) → agree_at s t f c ≡ true → next_to s t f c ≡ next_to s t f (cursor (c.older + 1) (c.newer + 1))
  unfolding next_to
  next_on c so = ap (step_at s t f) (past_on c so)

  pub next_here : (c : Cursor) → agree_at s t f c ≡ false → (x : Option Hit) → x ≡ step_at s t f c → x ≡ next_to s t f c
  unfolding next_to
  next_here c off x is_x = is_x ∙ ap (step_at s t f) (sym (stays c (f.last.older - c.older) off))

  -- a turn over the k-th of n pairs
  module _ (c : Cursor) (n k : ℕ) (there : Pairs s t f.last c n) (l : k < n) (d e : Descriptor) (is_d : d ≡ element_at s (c.older + k)) (is_e : e ≡ element_at t (c.newer + k)) (r : Bool) (is_r : r ≡ agree_by d e f.end)
      (inv : next_to s t f c ≡ next_to s t f (cursor (c.older + k) (c.newer + k))) where
    agrees : r ≡ agree_at s t f (cursor (c.older + k) (c.newer + k))
    agrees = agree_by_lem (cursor (c.older + k) (c.newer + k)) (there.both.inside k l) d e is_d is_e r is_r

    pub pair_again : r ≡ true → next_to s t f c ≡ next_to s t f (cursor (c.older + (k + 1)) (c.newer + (k + 1)))
    pair_again so =
        let older_on : c.older + k + 1 ≡ c.older + (k + 1) = omega arith in
        let newer_on : c.newer + k + 1 ≡ c.newer + (k + 1) = omega arith in
        inv ∙ next_on (cursor (c.older + k) (c.newer + k)) (sym agrees ∙ so) ∙ (λ i. next_to s t f (cursor (older_on i) (newer_on i)))

    pub pair_ends : r ≡ false → (x : Option Hit) → x ≡ step_by d.id.0 e.id.0 f.end (cursor (c.older + k) (c.newer + k)) → x ≡ next_to s t f c
    pair_ends off x is_x =
        let here : Cursor = cursor (c.older + k) (c.newer + k) in
        let a = key_there s f.last.older (c.older + k) f.end (there.both.inside k l).0 d.id (id_whole s (c.older + k) d is_d) in
        let b = key_there t f.last.newer (c.newer + k) f.end (there.both.inside k l).1 e.id (id_whole t (c.newer + k) e is_e) in
        next_here here (sym agrees ∙ off) x (step_by_lem s t f here d.id.0 e.id.0 a b x is_x) ∙ sym inv

  pub next_past : (c p : Cursor) → p ≡ past s t f (f.last.older - c.older) c → (x : Option Hit) → x ≡ step_at s t f p → x ≡ next_to s t f c
  unfolding next_to
  next_past c p is_p x is_x = is_x ∙ ap (step_at s t f) is_p

  pub next_whole : f ≡ frame_of s t → (c : Cursor) (x : Option Hit) → x ≡ next_to s t f c → x ≡ next_of s t c
  unfolding next_of
  next_whole is_f c x is_x = is_x ∙ ap (λ (g : Frame). next_to s t g c) is_f
