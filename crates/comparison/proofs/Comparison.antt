-- Laws of a comparison's text: one for each way out of a function, and one for each turn of a loop.
use Prim.Native.Nat.{ℕ, ◌+◌, ◌^◌, ◌<◌}
use mathlib.Core.Bool.{Bool, true, false}
use mathlib.Core.List.{List, [], ◌++◌}
use mathlib.Core.Path.{◌≡◌, refl, sym, ap, ◌∙◌}
use native.Mathlib.Omega.{arith}
use lib.Dec.{leb}
use lib.ListN.{length, length-append}
use Rattle.changes.specs.Changes.{line_of}
use Rattle.compare.proofs.Steps.{next_whole}
use Rattle.compare.proofs.Walking.{walk_done, walk-found, found-leaves}
use Rattle.compare.specs.Walk.{first, frame_of, next_to, next_of, ahead}
use Rattle.compare.specs.declared.Cursor.{Cursor}
use Rattle.compare.specs.declared.Frame.{Frame}
use Rattle.compare.specs.declared.Hit.{Hit}
use Rattle.ending.proofs.Ending.{length_last}
use Rattle.ending.specs.Ending.{last_line}
use Rattle.paper.specs.declared.ElementId.{ElementId}
use Rattle.reach.specs.Opening.{heard, judged}
use Rattle.reach.specs.declared.Turn.{Turn}
use Rattle.slices.specs.Lists.{stored, ended}
use Rattle.std.specs.Prelude.{Option, Some, None, Result, Ok, Err, is_ok}
use Rattle.writing.proofs.Puts.{puts_none, puts_one, puts_more}
use Rattle.writing.specs.Private.{Puts}
use Rattle.comparison.specs.Comparison.{lines_of, comparison_of}
use Rattle.comparison.specs.Private.{is_accepted, step_of, lines_from}
use Rattle.comparison.proofs.Accepted.{lines_none, by_walk}
use Rattle.comparison.proofs.Lengths.{length_lines}

-- ## A step

pub step_accepted : (s t : List ℕ) (f : Frame) → f ≡ frame_of s t → (a : Bool) (c : Cursor) → a ≡ true → (x : Option Hit) → x ≡ next_to s t f c → x ≡ step_of a s t c
step_accepted s t f is_f a c y x is_x = next_whole s t f is_f c x is_x ∙ rw y

-- ## A turn of a loop

not_found : {A : Type 0} (d : Hit) → None ≡ Some d → A
not_found d e = absurd (cc)

pub measure_none : (s t : List ℕ) (a : Bool) → a ≡ false → 0 ≡ length (lines_from a s t first)
measure_none s t a n = sym (rw (n, lines_none s t first))

module _ (s t : List ℕ) (c : Cursor) where
  pub lines_first : (a : Bool) → c ≡ first → lines_from a s t first ≡ lines_from a s t c
  lines_first a e = ap (lines_from a s t) (sym e)

  pub measure_first : (a : Bool) → a ≡ true → c ≡ first → 0 + length (lines_from true s t c) ≡ length (lines_from a s t first)
  measure_first a y e = rw (y, e) (omega arith)

  lines_done : (a : Bool) (x : Option Hit) → x ≡ step_of a s t c → x ≡ None → lines_from a s t c ≡ []
  unfolding lines_from
  lines_done true x is_x e = ap (lines_of s t) (walk_done s t c (sym e ∙ is_x))
  lines_done false x is_x e = refl

  lines_found : (a : Bool) (x : Option Hit) → x ≡ step_of a s t c → (d : Hit) → x ≡ Some d → lines_from a s t c ≡ line_of s t d.line ++ lines_from a s t d.next
  unfolding lines_from
  lines_found true x is_x d e = ap (lines_of s t) (walk-found s t c d (sym e ∙ is_x))
  lines_found false x is_x d e = not_found d (sym is_x ∙ e)

  pub next_less : (x : Option Hit) → x ≡ next_of s t c → (d : Hit) → x ≡ Some d → ahead s t d.next < ahead s t c
  next_less x is_x d e = found-leaves s t c d (sym e ∙ is_x)

  pub found_less : (a : Bool) (x : Option Hit) → x ≡ step_of a s t c → (d : Hit) → x ≡ Some d → ahead s t d.next < ahead s t c
  found_less true x is_x d e = next_less x is_x d e
  found_less false x is_x d e = not_found d (sym is_x ∙ e)

-- of what is stored in d up to n, the lines from the cursor on are what is missing for all lines in b
abbrev pub Rest : List ℕ → List ℕ → List ℕ → Bool → List ℕ → ℕ → Cursor → Type 0
Rest b s t a d n c = (y : List ℕ) (r : ℕ) → Puts d n (lines_from a s t c) y r → Puts b 0 (lines_from a s t first) y r

pub rest_first : (s t b : List ℕ) (a : Bool) (c : Cursor) → c ≡ first → Rest b s t a b 0 c
rest_first s t b a c e y r so = rw (lines_first s t c a e) so

module _ (s t : List ℕ) (a : Bool) (c : Cursor) (x : Option Hit) (is_x : x ≡ step_of a s t c) where
  pub measure_end : (n m : ℕ) → n + length (lines_from a s t c) ≡ m → x ≡ None → n ≡ m
  measure_end n m so e = omega (arith, ap length (lines_done s t c a x is_x e))

  pub put_end : (b d : List ℕ) (n : ℕ) → Rest b s t a d n c → x ≡ None → Puts b 0 (lines_from a s t first) d n
  put_end b d n so e = so d n (rw (lines_done s t c a x is_x e) (puts_none d n))

  module _ (h : Hit) (is_h : x ≡ Some h) where
    more : lines_from a s t c ≡ line_of s t h.line ++ lines_from a s t h.next
    more = lines_found s t c a x is_x h is_h

    module _ (n m w : ℕ) (so : n + length (lines_from a s t c) ≡ m) (is_w : w ≡ length (line_of s t h.line)) where
      pub measure_next : n + w + length (lines_from a s t h.next) ≡ m
      measure_next = omega (arith, ap length more, length-append (line_of s t h.line) (lines_from a s t h.next))

      pub measure_room : m < 2 ^ 64 → n + w < 2 ^ 64
      measure_room small = omega (arith, measure_next)

    pub put_next : (b d y : List ℕ) (n r : ℕ) → Rest b s t a d n c → y ≡ stored d n (line_of s t h.line) → r ≡ ended d n (line_of s t h.line) → Rest b s t a y r h.next
    put_next b d y n r so is_y is_r z k rest =
        let L : List ℕ = line_of s t h.line in
        so z k (rw more (puts_more d y n r L (lines_from a s t h.next) z k rest (puts_one d y n r L is_y is_r)))

-- ## The whole text

accepted_ok : (opening : Result (Option ElementId) Turn) → is_ok opening ≡ is_accepted (heard opening).state
accepted_ok (Ok b) = refl
accepted_ok (Err t) = refl

module _ (s t : List ℕ) (opening : Result (Option ElementId) Turn) (is_opening : heard opening ≡ judged s t) (a : Bool) (is_a : a ≡ is_ok opening) where
  as_judged : lines_from a s t first ≡ lines_from (is_accepted (judged s t).state) s t first
  as_judged = rw (is_a, accepted_ok opening, is_opening)

  pub lines_fit : length (lines_from a s t first) < 2 ^ 64
  lines_fit = omega (arith, ap length as_judged, length_lines s t)

  whole : comparison_of s t ≡ lines_from a s t first ++ last_line (heard opening).state
  whole = by_walk s t ∙ sym (rw (as_judged, is_opening))

  module _ (m w : ℕ) (is_m : m ≡ length (lines_from a s t first)) (is_w : w ≡ length (last_line (heard opening).state)) where
    pub size_fits : m + w < 2 ^ 64
    size_fits = omega (arith, ap length as_judged, length_lines s t, length_last (heard opening).state)

    pub room_measured : (room : ℕ) → leb (m + w) room ≡ leb (length (comparison_of s t)) room
    room_measured room =
        let long : m + w ≡ length (comparison_of s t) = omega (arith, ap length whole, length-append (lines_from a s t first) (last_line (heard opening).state)) in
        rw long

  pub compared_puts : (out x y : List ℕ) (lines size : ℕ) → Puts out 0 (lines_from a s t first) x lines
      → y ≡ stored x lines (last_line (heard opening).state) → size ≡ ended x lines (last_line (heard opening).state) → Puts out 0 (comparison_of s t) y size
  compared_puts out x y lines size one is_y is_size =
      let last : List ℕ = last_line (heard opening).state in
      rw whole (puts_more out x 0 lines (lines_from a s t first) last y size (puts_one x y lines size last is_y is_size) one)
