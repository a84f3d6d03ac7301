-- A part of a page as a place and a length: a law for each way out, and that it takes the very part (specs/Promises).
use Prim.Native.Nat.{ℕ, ◌+◌, ◌*◌, ◌≤◌}
use mathlib.Core.Bool.{Bool, true, false, cond, ◌||◌}
use mathlib.Core.List.{List, []}
use mathlib.Core.Path.{◌≡◌, refl, sym, ap, ◌∙◌}
use native.Mathlib.Nat.{min-eq_left}
use native.Mathlib.Omega.{arith}
use borrow.Author.Tests.{ltb-false, eq-eqb, ne_eqb}
use lib.Dec.{eqb, ltb}
use lib.ListN.{length, take, drop, length-take, length-drop}
use Rattle.compare.specs.declared.Line.TheVariants.{OnlyOlder, OnlyNewer, Changed}
use Rattle.offences.specs.Checks.{base_of}
use Rattle.parts.specs.Parts.{descriptor_part}
use Rattle.reach.specs.Pages.{count_of}
use Rattle.spelt.specs.Promises.{SpansPart, SpanInside}
use Rattle.spelt.specs.Spans.{no_span, span_in, span_of, page_of}
use Rattle.spelt.specs.declared.Difference.{Difference}
use Rattle.spelt.specs.declared.Span.{Span}

module _ (turn : ℕ) (s : List ℕ) (k : ℕ) (p : List ℕ) (is_p : p ≡ descriptor_part s k) where
  pub span_none : length p ≡ 0 → (r : Span) → r ≡ no_span → r ≡ span_in turn s k
  span_none z r e = e ∙ sym (rw (eq-eqb _ _ (ap length (sym is_p) ∙ z)))

  pub span_there : (length p ≡ 0 → ⊥) → record { place = 32 + 32 * k; length = length p; turn = turn } ≡ span_in turn s k
  span_there z =
      ap (λ (q : List ℕ). record { place = 32 + 32 * k; length = length q; turn = turn }) is_p
      ∙ sym (rw (ne_eqb _ _ (λ e. z (ap length is_p ∙ e))))

module _ (s t : List ℕ) (d : Difference) (r : Span) where
  pub span_older : d.kind ≡ 1 → r ≡ span_in 1 s d.at.older → r ≡ span_of s t d
  unfolding span_of
  span_older k e = e ∙ sym (rw k)

  pub span_newer : d.kind ≡ 2 → r ≡ span_in 2 t d.at.newer → r ≡ span_of s t d
  unfolding span_of
  span_newer k e = e ∙ sym (rw k)

  pub span_both : d.kind ≡ 3 → r ≡ span_in 2 t d.at.newer → r ≡ span_of s t d
  unfolding span_of
  span_both k e = e ∙ sym (rw k)

  pub span_other : (d.kind ≡ 1 → ⊥) → (d.kind ≡ 2 → ⊥) → (d.kind ≡ 3 → ⊥) → r ≡ no_span → r ≡ span_of s t d
  unfolding span_of
  span_other a b c e = e ∙ sym (rw (ne_eqb _ _ a, ne_eqb _ _ b, ne_eqb _ _ c))

-- ## The part itself, of the page that f has at the span's turn

abbrev taken : (ℕ → List ℕ) → Span → List ℕ
taken f x = take x.length (drop x.place (f x.turn))

spanned : (f : ℕ → List ℕ) (turn : ℕ) (s : List ℕ) (k : ℕ) → f turn ≡ s → taken f (span_in turn s k) ≡ descriptor_part s k
unfolding descriptor_part
spanned f turn s k e = go (ltb k (count_of s)) (ltb (length (drop (base_of k) s)) 32) refl
  where
    part : Bool → Bool → List ℕ
    part b c = cond b (cond c [] (take 32 (drop (base_of k) s))) []

    go : (b c : Bool) → ltb (length (drop (base_of k) s)) 32 ≡ c
        → taken f (cond (eqb (length (part b c)) 0) no_span (record { place = base_of k; length = length (part b c); turn = turn })) ≡ part b c
    go false c q = refl
    go true true q = refl
    go true false q =
        let long : length (take 32 (drop (base_of k) s)) ≡ 32 = length-take 32 (drop (base_of k) s) ∙ min-eq_left (ltb-false _ _ q) in
        rw long (ap (λ (p : List ℕ). take 32 (drop (base_of k) p)) e)

pub spans_part : SpansPart
unfolding span_of
spans_part s t (OnlyOlder k) next = spanned (page_of s t) 1 s k refl
spans_part s t (OnlyNewer k) next = spanned (page_of s t) 2 t k refl
spans_part s t (Changed c) next = spanned (page_of s t) 2 t c.newer refl

-- ## Inside its page

abbrev Inside : (ℕ → List ℕ) → Span → Type 0
Inside f x = x.place + x.length ≤ length (f x.turn)

inside : (f : ℕ → List ℕ) (turn : ℕ) (s : List ℕ) (k : ℕ) → f turn ≡ s → Inside f (span_in turn s k)
unfolding descriptor_part
inside f turn s k e = go (ltb k (count_of s)) (ltb (length (drop (base_of k) s)) 32) refl
  where
    part : Bool → Bool → List ℕ
    part b c = cond b (cond c [] (take 32 (drop (base_of k) s))) []

    go : (b c : Bool) → ltb (length (drop (base_of k) s)) 32 ≡ c
        → Inside f (cond (eqb (length (part b c)) 0) no_span (record { place = base_of k; length = length (part b c); turn = turn }))
    go false c q = omega arith
    go true true q = omega arith
    go true false q =
        let more : 32 ≤ length (drop (base_of k) s) = ltb-false _ _ q in
        let long : length (take 32 (drop (base_of k) s)) ≡ 32 = length-take 32 (drop (base_of k) s) ∙ min-eq_left more in
        rw (long, e) (omega (arith, more, length-drop (base_of k) s))

pub span_inside : SpanInside
unfolding span_of
span_inside s t d = go (eqb d.kind 1) (eqb d.kind 2 || eqb d.kind 3)
  where
    go : (b c : Bool) → Inside (page_of s t) (cond b (span_in 1 s d.at.older) (cond c (span_in 2 t d.at.newer) no_span))
    go true c = inside (page_of s t) 1 s d.at.older refl
    go false true = inside (page_of s t) 2 t d.at.newer refl
    go false false = omega arith
