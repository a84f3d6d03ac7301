-- A walk over the elements of a table: how many are asked for, and which is the next of them.
use Prim.Native.Nat.{ℕ, zero, suc, ◌+◌, ◌-◌, ◌≤◌, ◌<◌}
use mathlib.Core.Bool.{Bool, true, false, cond}
use mathlib.Core.List.{List, [], ◌∷◌, ◌++◌, map, append-nil, append_assoc}
use mathlib.Core.Path.{◌≡◌, sym, ap, ◌∙◌}
use native.Mathlib.Nat.{add-zero}
use native.Mathlib.Omega.{arith}
use lib.ListN.{length, get_or, length-append, length-map}
use lib.Seq.{get_or-append_seam}
use mir.Val.{bool_byte}
use Rattle.layout.specs.declared.Descriptor.{Descriptor}
use Rattle.request.specs.declared.Request.{Request}
use Rattle.slices.proofs.Lists.{length-keep, length-up_to}
use Rattle.slices.specs.Lists.{up_to}
use Rattle.status.proofs.Places.{wanted, wanted_more}
use Rattle.status.specs.Private.{shown_in}
use Rattle.table.specs.Elements.{blank_part}
use Rattle.table.specs.declared.Part.{Part}
use Rattle.view.specs.Shown.{shown_of, asks}

module _ (ps : List Part) (hs : List ℕ) (q : Request) where
  -- how many are asked for of the first i
  abbrev pub count : ℕ → ℕ
  count i = length (wanted ps hs q i)

  pub count_low : (i : ℕ) → count i ≤ i
  unfolding wanted
  count_low i =
      omega (arith, length-keep (asks q) (map (shown_in ps hs) (up_to i)), length-map (up_to i) (shown_in ps hs), length-up_to i)

  wanted_on : (i k : ℕ) → (rest : List Descriptor) × (wanted ps hs q (i + k) ≡ wanted ps hs q i ++ rest)
  wanted_on i zero = ([], ap (wanted ps hs q) (add-zero i) ∙ sym (append-nil (wanted ps hs q i)))
  wanted_on i (suc k) =
      let before : (rest : List Descriptor) × (wanted ps hs q (i + k) ≡ wanted ps hs q i ++ rest) = wanted_on i k in
      let more : List Descriptor = cond (asks q (shown_in ps hs (i + k))) (shown_in ps hs (i + k) ∷ []) [] in
      let turn : i + suc k ≡ i + k + 1 = omega arith in
      (before.0 ++ more, ap (wanted ps hs q) turn ∙ wanted_more ps hs q (i + k) ∙ ap (λ (l : List Descriptor). l ++ more) before.1 ∙ append_assoc (wanted ps hs q i) before.0 more)

  -- a turn of the walk over the first n: an element counts if it is asked for, and then it is the next of all
  module _ (i : ℕ) (b : Bool) (is_b : b ≡ asks q (shown_of (get_or ps i blank_part) (get_or hs i 0))) where
    pub count_turn : count (i + 1) ≡ count i + bool_byte b
    unfolding shown_in
    count_turn = ap length (wanted_more ps hs q i) ∙ length-append (wanted ps hs q i) (cond (asks q (shown_in ps hs i)) (shown_in ps hs i ∷ []) []) ∙ by_test b (sym is_b)
      where
        by_test : (b : Bool) → asks q (shown_in ps hs i) ≡ b → count i + length (cond (asks q (shown_in ps hs i)) (shown_in ps hs i ∷ []) []) ≡ count i + bool_byte b
        by_test true y = rw y
        by_test false z = rw z

    module _ (yes : b ≡ true) (n : ℕ) (low : i < n) where
      rest : (rest : List Descriptor) × (wanted ps hs q n ≡ wanted ps hs q i ++ (shown_in ps hs i ∷ rest))
      unfolding shown_in
      rest =
          let on : (rest : List Descriptor) × (wanted ps hs q (i + 1 + (n - (i + 1))) ≡ wanted ps hs q (i + 1) ++ rest) = wanted_on (i + 1) (n - (i + 1)) in
          let all : n ≡ i + 1 + (n - (i + 1)) = omega arith in
          let here : wanted ps hs q (i + 1) ≡ wanted ps hs q i ++ (shown_in ps hs i ∷ []) = wanted_more ps hs q i ∙ rw (sym is_b ∙ yes) in
          (on.0, ap (wanted ps hs q) all ∙ on.1 ∙ ap (λ (l : List Descriptor). l ++ on.0) here ∙ append_assoc (wanted ps hs q i) (shown_in ps hs i ∷ []) on.0)

      pub next_less : count i < count n
      next_less =
          let long : count n ≡ count i + suc (length rest.0) = ap length rest.1 ∙ length-append (wanted ps hs q i) (shown_in ps hs i ∷ rest.0) in
          omega arith

      pub next_here : (z : Descriptor) → shown_in ps hs i ≡ get_or (wanted ps hs q n) (count i) z
      next_here z = sym (ap (λ (l : List Descriptor). get_or l (count i) z) rest.1 ∙ get_or-append_seam (wanted ps hs q i) (shown_in ps hs i) rest.0 z)
