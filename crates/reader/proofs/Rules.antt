-- A check that decides a list of rules: clean where each holds, else at the place of the first that is broken.
use Prim.Native.Nat.{ℕ, zero, suc, ◌<◌}
use mathlib.Core.Bool.{Bool, true, false, false≢true}
use mathlib.Core.List.{List, [], ◌∷◌, ◌++◌}
use mathlib.Core.Logic.{inl, inr}
use mathlib.Core.Path.{◌≡◌, refl, sym, ap, subst, ◌∙◌}
use native.Mathlib.Omega.{arith}
use lib.Dec.{eqb}
use borrow.Author.Tests.{eqb-true, eqb-false}
use Rattle.std.proofs.Common.{Ok, Err, Result}
use Rattle.std.specs.Prelude.{⊤}
use Rattle.offences.specs.First.{unless, ◌or_else◌, first_below}
use Rattle.offences.specs.declared.Offence.{Offence}
use Rattle.paper.specs.Told.{Told, tells}
use Rattle.reader.specs.Layout.{Rule, Each, FirstBroken, below}

abbrev at : ℕ → Result ⊤ Offence
at p = Err (record { 0 = p })

abbrev pub Decides : Result ⊤ Offence → List Rule → Type 0
Decides (Ok _) rs = Each rs
Decides (Err e) rs = FirstBroken rs e.0

-- ## Put together

pub one : (t : Bool) (r : Rule) → (t ≡ true → r.Says) → (r.Says → t ≡ true) → Decides (unless t r.place) (r ∷ [])
one true r to from = (to refl, tt)
one false r to from = inl (λ h. false≢true (from h), refl)

pub each_both : (rs ss : List Rule) → Each rs → Each ss → Each (rs ++ ss)
each_both [] ss e f = f
each_both (r ∷ rs) ss (h, e) f = (h, each_both rs ss e f)

first-after : (rs ss : List Rule) (p : ℕ) → Each rs → FirstBroken ss p → FirstBroken (rs ++ ss) p
first-after [] ss p e f = f
first-after (r ∷ rs) ss p (h, e) f = inr (h, first-after rs ss p e f)

first_in : (rs ss : List Rule) (p : ℕ) → FirstBroken rs p → FirstBroken (rs ++ ss) p
first_in [] ss p f = absurd f
first_in (r ∷ rs) ss p (inl f) = inl f
first_in (r ∷ rs) ss p (inr (h, f)) = inr (h, first_in rs ss p f)

pub join : (a b : Result ⊤ Offence) (rs ss : List Rule) → Decides a rs → Decides b ss → Decides (a or_else b) (rs ++ ss)
join (Ok _) (Ok _) rs ss v w = each_both rs ss v w
join (Ok _) (Err e) rs ss v w = first-after rs ss e.0 v w
join (Err e) b rs ss v w = first_in rs ss e.0 v

-- a rule more in front
pub next : (t : Bool) (r : Rule) → (t ≡ true → r.Says) → (r.Says → t ≡ true)
    → (b : Result ⊤ Offence) (rs : List Rule) → Decides b rs → Decides (unless t r.place or_else b) (r ∷ rs)
next t r to from b rs v = join (unless t r.place) b (r ∷ []) rs (one t r to from) v

pub all-below : (n : ℕ) (f : ℕ → Result ⊤ Offence) (g : ℕ → List Rule) → ((k : ℕ) → Decides (f k) (g k)) → Decides (first_below n f) (below n g)
all-below zero f g v = tt
all-below (suc n) f g v = join (first_below n f) (f n) (below n g) (g n) (all-below n f g v) (v n)

pub each_below : (n : ℕ) (g : ℕ → List Rule) → ((k : ℕ) → k < n → Each (g k)) → Each (below n g)
each_below zero g v = tt
each_below (suc n) g v = each_both (below n g) (g n) (each_below n g (λ k l. v k (omega arith))) (v n (omega arith))

-- ## And taken apart

pub each_first : (rs ss : List Rule) → Each (rs ++ ss) → Each rs
each_first [] ss e = tt
each_first (r ∷ rs) ss (h, e) = (h, each_first rs ss e)

pub each_second : (rs ss : List Rule) → Each (rs ++ ss) → Each ss
each_second [] ss e = e
each_second (r ∷ rs) ss (h, e) = each_second rs ss e

pub each_at : (n : ℕ) (g : ℕ → List Rule) → Each (below n g) → (k : ℕ) → k < n → Each (g k)
each_at zero g e k l = absurd (omega arith)
each_at (suc n) g e k l = by_test (eqb k n) refl (each_at n g (each_first (below n g) (g n) e) k)
  where
    by_test : (b : Bool) → eqb k n ≡ b → (k < n → Each (g k)) → Each (g k)
    by_test true p before = subst (λ (j : ℕ). Each (g j)) (sym (eqb-true k n p)) (each_second (below n g) (g n) e)
    by_test false p before = before (omega (arith, eqb-false k n p))

-- ## Decided one way only

never_both : (rs : List Rule) (p : ℕ) → Each rs → FirstBroken rs p → ⊥
never_both [] p e f = f
never_both (r ∷ rs) p (h, e) (inl (n, at)) = n h
never_both (r ∷ rs) p (h, e) (inr (_, f)) = never_both rs p e f

one-first : (rs : List Rule) (p r : ℕ) → FirstBroken rs p → FirstBroken rs r → p ≡ r
one-first [] p r f g = absurd f
one-first (x ∷ rs) p r (inl (n, at)) (inl (m, to)) = sym at ∙ to
one-first (x ∷ rs) p r (inl (n, at)) (inr (h, g)) = absurd (n h)
one-first (x ∷ rs) p r (inr (h, f)) (inl (m, to)) = absurd (m h)
one-first (x ∷ rs) p r (inr (h, f)) (inr (k, g)) = one-first rs p r f g

clean_if : (a : Result ⊤ Offence) (rs : List Rule) → Decides a rs → Each rs → a ≡ Ok tt
clean_if (Ok _) rs v e = refl
clean_if (Err p) rs v e = absurd (never_both rs p.0 e v)

at_if : (a : Result ⊤ Offence) (rs : List Rule) (p : ℕ) → Decides a rs → FirstBroken rs p → a ≡ at p
at_if (Ok _) rs p v f = absurd (never_both rs p v f)
at_if (Err r) rs p v f = ap at (one-first rs r.0 p v f)

-- ## An answer that goes by a check: 0 where it is clean, else 9 with the place

module _ {X : Type 0} (t : Result ⊤ Offence → Told X) (place : ℕ → X) (is_0 : (t (Ok tt)).number ≡ 0) (is_9 : (p : ℕ) → t (at p) ≡ tells 9 (place p)) where
  pub clean_0 : (a : Result ⊤ Offence) → (t a).number ≡ 0 → a ≡ Ok tt
  clean_0 (Ok _) e = refl
  clean_0 (Err p) e = absurd (let no : ◌≡◌ {A = ℕ} 9 0 = sym (ap (λ (u : Told X). u.number) (is_9 p.0)) ∙ e in omega arith)

  -- a place can be told from the answer
  pub at_9 : (placed : X → ℕ) → ((p : ℕ) → placed (place p) ≡ p) → (a : Result ⊤ Offence) (p : ℕ) → t a ≡ tells 9 (place p) → a ≡ at p
  at_9 placed back (Ok _) p e = absurd (let no : ◌≡◌ {A = ℕ} 0 9 = sym is_0 ∙ ap (λ (u : Told X). u.number) e in omega arith)
  at_9 placed back (Err r) p e = ap at (sym (back r.0) ∙ ap (λ (u : Told X). placed u.state) (sym (is_9 r.0) ∙ e) ∙ back p)

  module _ (a : Result ⊤ Offence) (rs : List Rule) (v : Decides a rs) where
    decided : (b : Result ⊤ Offence) → a ≡ b → Decides b rs
    decided b e = subst (λ (x : Result ⊤ Offence). Decides x rs) e v

    -- 0 exactly if each rule holds
    pub takes : ((t a).number ≡ 0 → Each rs) × (Each rs → t a ≡ t (Ok tt))
    takes = (λ e. decided (Ok tt) (clean_0 a e), λ each. ap t (clean_if a rs v each))

    -- 9 with a place exactly if the first rule broken has it
    pub refuses : (placed : X → ℕ) → ((p : ℕ) → placed (place p) ≡ p) → (p : ℕ)
        → (t a ≡ tells 9 (place p) → FirstBroken rs p) × (FirstBroken rs p → t a ≡ tells 9 (place p))
    refuses placed back p = (λ e. decided (at p) (at_9 placed back a p e), λ first. ap t (at_if a rs p v first) ∙ is_9 p)
