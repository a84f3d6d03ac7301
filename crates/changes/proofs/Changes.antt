-- Laws of a difference's line: one for each way out of a function, and how long it is.
use Prim.Native.Nat.{ℕ, ◌+◌, ◌^◌, ◌<◌}
use mathlib.Core.List.{List, [], ◌∷◌, ◌++◌, append_assoc}
use mathlib.Core.Path.{◌≡◌, refl, sym, ap, subst, subst⁻¹, ◌∙◌}
use native.Mathlib.Omega.{arith}
use lib.ListN.{length, get_or, length-append}
use Rattle.compare.specs.declared.Cursor.{Cursor}
use Rattle.compare.specs.declared.Line.TheVariants.{OnlyOlder, OnlyNewer, Changed}
use Rattle.compare.specs.declared.Line.{Line}
use Rattle.layout.specs.Bytes.{descriptor_in}
use Rattle.layout.specs.declared.Descriptor.{Descriptor}
use Rattle.paper.specs.declared.ElementId.{ElementId}
use Rattle.parts.specs.Parts.{descriptor_part, part_of}
use Rattle.rows.proofs.Rows as rows
use Rattle.rows.proofs.Rows.{length_values}
use Rattle.rows.specs.Rows.{values_of, descriptor_line}
use Rattle.slices.specs.Lists.{stored, ended}
use Rattle.text.specs.Digits.{digits}
use Rattle.text.specs.Text.{ascii}
use Rattle.words.specs.declared.Order.TheVariants.{Little}
use Rattle.writing.proofs.Puts.{puts_one, puts_same, puts_more}
use Rattle.writing.specs.Private.{Puts}
use Rattle.changes.specs.Changes.{handed, older_of, signed, changed, body_of, line_of}
use Rattle.changes.specs.Private.{sign_of, head_of, handed_at, older_text}

-- ## What a difference's line speaks of

pub handed_read : (s t : List ℕ) (l : Line) (u : List ℕ) → u ≡ part_of s t l → (d : Descriptor) → d ≡ descriptor_in Little u → d ≡ handed s t l
unfolding handed
handed_read s t l u is_u d is_d = is_d ∙ rw is_u

older_is : (s t : List ℕ) (c : Cursor) → handed s t (OnlyOlder c.older) ≡ older_of s c
unfolding handed older_of
older_is s t c = refl

-- of each kind of line
module _ (s t : List ℕ) (l : Line) (k : ℕ) (d : Descriptor) where
  pub shown_older : l ≡ OnlyOlder k → d ≡ handed_at s k → d ≡ handed s t l
  unfolding handed
  shown_older e is_d = is_d ∙ rw e

  pub shown_newer : l ≡ OnlyNewer k → d ≡ handed_at t k → d ≡ handed s t l
  unfolding handed
  shown_newer e is_d = is_d ∙ rw e

pub shown-changed : (s t : List ℕ) (l : Line) (c : Cursor) (d : Descriptor) → l ≡ Changed c → d ≡ handed_at t c.newer → d ≡ handed s t l
unfolding handed
shown-changed s t l c d e is_d = is_d ∙ rw e

pub handed_there : (s : List ℕ) (k : ℕ) (u : List ℕ) → u ≡ descriptor_part s k → (d : Descriptor) → d ≡ descriptor_in Little u → d ≡ handed_at s k
handed_there s k u is_u d is_d = is_d ∙ rw is_u

-- ## How long it is

length-signed : (sign : ℕ) (d : Descriptor) → length (signed (sign ∷ 32 ∷ []) d) ≡ 11 + length (values_of d)
length-signed sign d = length-append (head_of sign d.id.0) (values_of d)

length-listed : (d : Descriptor) → length (descriptor_line d) ≡ 10 + length (values_of d)
length-listed d =
    let id : List ℕ = digits 16 8 d.id.0 ++ ascii " " in
    omega (arith, length-append (id ++ values_of d) (ascii "\n"), length-append id (values_of d))

length_only : (sign : ℕ) (d : Descriptor) → 2 + length (descriptor_line d) ≡ length (signed (sign ∷ 32 ∷ []) d ++ ascii "\n")
length_only sign d = omega (arith, length-listed d, length-signed sign d, length-append (signed (sign ∷ 32 ∷ []) d) (ascii "\n"))

length-changed : (d old : Descriptor) → 2 + length (descriptor_line d) + 4 + length (values_of old) ≡ length (changed d old ++ ascii "\n")
length-changed d old =
    let new : List ℕ = signed (ascii "~ ") d in
    omega (
      arith,
      length-listed d,
      length-signed 0x7E d,
      length-append new (ascii " <- "),
      length-append (new ++ ascii " <- ") (values_of old),
      length-append (changed d old) (ascii "\n"),
    )

module _ (s t : List ℕ) (l : Line) (d : Descriptor) (is_d : d ≡ handed s t l) (w : ℕ) (is_w : w ≡ length (descriptor_line d)) where
  pub width_older : (k : ℕ) → l ≡ OnlyOlder k → 2 + w ≡ length (line_of s t l)
  unfolding line_of
  width_older k e = rw is_w (length_only 0x2D d ∙ rw (is_d, e))

  pub width_newer : (k : ℕ) → l ≡ OnlyNewer k → 2 + w ≡ length (line_of s t l)
  unfolding line_of
  width_newer k e = rw is_w (length_only 0x2B d ∙ rw (is_d, e))

  pub width_changed : (c : Cursor) → l ≡ Changed c → (old : Descriptor) → old ≡ handed s t (OnlyOlder c.older) → (v : ℕ) → v ≡ length (values_of old)
      → 2 + w + 4 + v ≡ length (line_of s t l)
  unfolding line_of
  width_changed c e old is_old v is_v = rw (is_w, is_v) (length-changed d old ∙ rw (is_d, is_old ∙ older_is s t c, e))

module _ (d : Descriptor) (w : ℕ) (is_w : w ≡ length (descriptor_line d)) where
  pub width_fits : 2 + w < 2 ^ 64
  width_fits = omega (arith, rows.length_line d)

  pub arrow_fits : 2 + w + 4 < 2 ^ 64
  arrow_fits = omega (arith, rows.length_line d)

  pub both_fit : (old : Descriptor) (v : ℕ) → v ≡ length (values_of old) → 2 + w + 4 + v < 2 ^ 64
  both_fit old v is_v = omega (arith, rows.length_line d, length_values old)

-- ## What it says

pub head_laid : (sign : ℕ) (id : ElementId) (i : List ℕ) → i ≡ digits 16 8 id.0
    → sign ∷ 32 ∷ get_or i 0 0 ∷ get_or i 1 0 ∷ get_or i 2 0 ∷ get_or i 3 0 ∷ get_or i 4 0 ∷ get_or i 5 0 ∷ get_or i 6 0 ∷ get_or i 7 0 ∷ 32 ∷ [] ≡ head_of sign id.0
head_laid sign id i is_i = rw is_i

pub signed_puts : (sign : ℕ) (e : Descriptor) (d x y h : List ℕ) (at m r : ℕ) → h ≡ head_of sign e.id.0 → x ≡ stored d at h → m ≡ ended d at h
    → y ≡ stored x m (values_of e) → r ≡ ended x m (values_of e) → Puts d at (signed (sign ∷ 32 ∷ []) e) y r
signed_puts sign e d x y h at m r is_h is_x is_m is_y is_r =
    let H : List ℕ = head_of sign e.id.0 in
    puts_more d x at m H (values_of e) y r (puts_one x y m r (values_of e) is_y is_r) (puts_same d x at m h H is_h is_x is_m)

pub older_puts : (s : List ℕ) (k : ℕ) (old : Descriptor) → old ≡ handed_at s k → (d x y : List ℕ) (at m r : ℕ)
    → x ≡ stored d at (ascii " <- ") → m ≡ ended d at (ascii " <- ") → y ≡ stored x m (values_of old) → r ≡ ended x m (values_of old) → Puts d at (older_text s k) y r
older_puts s k old is_old d x y at m r is_x is_m is_y is_r =
    let values : List ℕ = values_of (handed_at s k) in
    puts_more d x at m (ascii " <- ") values y r (puts_same x y m r (values_of old) values (ap values_of is_old) is_y is_r) (puts_one d x at m (ascii " <- ") is_x is_m)

-- the line's own descriptor, then, of a changed element, the older values
module _ (s t : List ℕ) (l : Line) (sign : ℕ) (is_sign : sign ≡ sign_of l) (e : Descriptor) (is_e : e ≡ handed s t l) (d x : List ℕ) (at m : ℕ)
    (first : Puts d at (signed (sign ∷ 32 ∷ []) e) x m) where
  -- of a line that is told
  begun : (k : Line) → l ≡ k → Puts d at (signed (sign_of k ∷ 32 ∷ []) (handed s t k)) x m
  begun k so = subst (λ (u : List ℕ). Puts d at u x m) ((λ i. signed (is_sign i ∷ 32 ∷ []) (is_e i)) ∙ (λ i. signed (sign_of (so i) ∷ 32 ∷ []) (handed s t (so i)))) first

  said : (k : Line) → l ≡ k → (y : List ℕ) (r : ℕ) → Puts d at (body_of s t k) y r → Puts d at (body_of s t l) y r
  said k so y r = subst⁻¹ (λ (j : Line). Puts d at (body_of s t j) y r) so

  pub said_older : (k : ℕ) → l ≡ OnlyOlder k → Puts d at (body_of s t l) x m
  said_older k so = said (OnlyOlder k) so x m (begun (OnlyOlder k) so)

  pub said_newer : (k : ℕ) → l ≡ OnlyNewer k → Puts d at (body_of s t l) x m
  said_newer k so = said (OnlyNewer k) so x m (begun (OnlyNewer k) so)

  pub said-changed : (c : Cursor) → l ≡ Changed c → (y : List ℕ) (r : ℕ) → Puts x m (older_text s c.older) y r → Puts d at (body_of s t l) y r
  unfolding older_of
  said-changed c so y r last =
      let new : List ℕ = signed (ascii "~ ") (handed s t (Changed c)) in
      let both : Puts d at (new ++ older_text s c.older) y r = puts_more d x at m new (older_text s c.older) y r last (begun (Changed c) so) in
      said (Changed c) so y r
      (subst (λ (u : List ℕ). Puts d at u y r) (sym (append_assoc new (ascii " <- ") (values_of (handed_at s c.older)))) both)

pub line_puts : (s t : List ℕ) (l : Line) (d x y : List ℕ) (at m r : ℕ) → Puts d at (body_of s t l) x m
    → y ≡ stored x m (ascii "\n") → r ≡ ended x m (ascii "\n") → Puts d at (line_of s t l) y r
unfolding line_of
line_puts s t l d x y at m r one is_y is_r = puts_more d x at m (body_of s t l) (ascii "\n") y r (puts_one x y m r (ascii "\n") is_y is_r) one
