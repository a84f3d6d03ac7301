-- Laws of the replies to the calls for a SCSI host: one for each way out of a function, and how long they are.
use Prim.Native.Nat.{ℕ, ◌≤◌}
use mathlib.Core.Bool.{Bool, true, false, cond}
use mathlib.Core.List.{List, [], ◌++◌}
use mathlib.Core.Path.{◌≡◌, refl, sym, ap, ◌∙◌}
use native.Mathlib.Omega.{arith}
use lib.Dec.{eqb}
use lib.ListN.{length, take, length-append}
use borrow.Author.Tests.{eq-eqb, ne_eqb}
use Rattle.std.proofs.Common.{Result, Err}
use Rattle.contents.specs.Contents.{refused_line}
use Rattle.convert.specs.Convert as convert
use Rattle.convert.specs.declared.Refusal.{Refusal}
use Rattle.docking.specs.Dock.{Kind, scsi, toscsi, toata, Answered, place_in, heard, kind_said, number_said, place_said, count_said}
use Rattle.docking.specs.declared.Docked.{Docked}
use Rattle.docking.specs.declared.Said.{Said}
use Rattle.dump.proofs.Data.{enough_for_data}
use Rattle.dump.proofs.Dump.{enough, length_touched}
use Rattle.dump.specs.Dump.{touched_text}
use Rattle.slices.proofs.Lists.{stored_none}
use Rattle.slices.specs.Lists.{fits, stored, ended}
use Rattle.text.proofs.Digits.{length_decimal}
use Rattle.text.specs.Digits.{decimal_of}
use Rattle.text.specs.Text.{ascii}
use Rattle.writing.proofs.Puts.{ended_none, puts_one}
use Rattle.writing.specs.Private.{Puts}
use Rattle.writing.specs.Writing.{stored_in, ended_in}
use Rattle.replies.specs.Replies.{bare_line, first_line, shown_as, bytes_text, dock_text}
use Rattle.replies.proofs.Answers.{length_answer, three_puts}

-- ## The first line, by what was said

abbrev bare_of : Result ℕ Refusal → List ℕ
bare_of c = bare_line (convert.heard c []).number (place_in (convert.heard c []).state)

pub at_bare : (c found : Result ℕ Refusal) → c ≡ found → (d x : List ℕ) (r : ℕ) → x ≡ stored d 0 (bare_of found) → r ≡ ended d 0 (bare_of found) → Puts d 0 (bare_of c) x r
at_bare c found e d x r is_x is_r = rw e (puts_one d x 0 r (bare_of found) is_x is_r)

pub at_refusal : (a found : Refusal) → a ≡ found → (d x : List ℕ) (r : ℕ) → x ≡ stored d 0 (bare_of (Err found)) → r ≡ ended d 0 (bare_of (Err found)) → Puts d 0 (bare_of (Err a)) x r
at_refusal a found e = at_bare (Err a) (Err found) (ap Err e)

pub refused_bare : (c : Result ℕ Refusal) (a : Refusal) → c ≡ Err a → (d x : List ℕ) (r : ℕ) → Puts d 0 (bare_of (Err a)) x r → Puts d 0 (bare_of c) x r
refused_bare c a e d x r so = rw e so

pub at_first : (s found : Said) → s ≡ found → (d x : List ℕ) (r : ℕ) → Puts d 0 (first_line (kind_said found) (number_said found) (place_said found)) x r
    → Puts d 0 (first_line (kind_said s) (number_said s) (place_said s)) x r
at_first s found e d x r so = rw e so

length_bare : (n place : ℕ) → length (bare_line n place) ≤ 100
length_bare n place = by_test (eqb n 9)
  where
    by_test : (t : Bool) → length (cond t (refused_line place) (decimal_of n ++ ascii "\n")) ≤ 100
    by_test true = simp length-append (omega (arith, length_decimal place))
    by_test false = simp length-append (omega (arith, length_decimal n))

length-first : (k : Kind) (n place : ℕ) → length (first_line k n place) ≤ 100
length-first scsi n place = omega (arith, length_answer n)
length-first toscsi n place = length_bare n place
length-first toata n place = length_bare n place

-- ## The bytes

module _ (s : Said) (bytes d : List ℕ) (at : ℕ) where
  module _ (found : Said) (e : s ≡ found) where
    pub at_shown : (x : List ℕ) → x ≡ stored_in 134000 d at (shown_as (kind_said found) bytes) → x ≡ stored_in 134000 d at (shown_as (kind_said s) bytes)
    at_shown x is_x = is_x ∙ sym (rw e)

    pub at_shown_end : (r : ℕ) → r ≡ ended_in 134000 d at (shown_as (kind_said found) bytes) → r ≡ ended_in 134000 d at (shown_as (kind_said s) bytes)
    at_shown_end r is_r = is_r ∙ sym (rw e)

  module _ (n : ℕ) (is_n : n ≡ number_said s) where
    module _ (e : n ≡ 0 → ⊥) where
      none : bytes_text (kind_said s) (number_said s) bytes ≡ []
      none = rw (← is_n, ne_eqb n 0 e)

      pub refused_bytes : d ≡ stored_in 134000 d at (bytes_text (kind_said s) (number_said s) bytes)
      refused_bytes = sym (ap (stored_in 134000 d at) none ∙ by_test (fits 134000 at (length d)))
        where
          by_test : (t : Bool) → cond t (stored d at []) d ≡ d
          by_test true = stored_none d at
          by_test false = refl

      pub refused_end : at ≡ ended_in 134000 d at (bytes_text (kind_said s) (number_said s) bytes)
      refused_end = sym (ap (ended_in 134000 d at) none ∙ by_test (fits 134000 at (length d)))
        where
          by_test : (t : Bool) → cond t (ended d at []) at ≡ at
          by_test true = ended_none d at
          by_test false = refl

    module _ (e : n ≡ 0) where
      shown : shown_as (kind_said s) bytes ≡ bytes_text (kind_said s) (number_said s) bytes
      shown = sym (rw (← is_n, eq-eqb n 0 e))

      pub done_bytes : (x : List ℕ) → x ≡ stored_in 134000 d at (shown_as (kind_said s) bytes) → x ≡ stored_in 134000 d at (bytes_text (kind_said s) (number_said s) bytes)
      done_bytes x is_x = is_x ∙ ap (stored_in 134000 d at) shown

      pub done_end : (r : ℕ) → r ≡ ended_in 134000 d at (shown_as (kind_said s) bytes) → r ≡ ended_in 134000 d at (bytes_text (kind_said s) (number_said s) bytes)
      done_end r is_r = is_r ∙ ap (ended_in 134000 d at) shown

length-shown : (k : Kind) (bytes : List ℕ) → length (shown_as k bytes) ≤ 134000
length-shown scsi bytes = enough_for_data bytes
length-shown toscsi bytes = enough_for_data bytes
length-shown toata bytes = enough bytes

length_bytes : (k : Kind) (n : ℕ) (bytes : List ℕ) → length (bytes_text k n bytes) ≤ 134000
length_bytes k n bytes = by_test (eqb n 0)
  where
    by_test : (t : Bool) → length (cond t (shown_as k bytes) []) ≤ 134000
    by_test true = length-shown k bytes
    by_test false = omega arith

-- ## The whole text

pub length_docked : (a : Answered) (lent : List ℕ) → length (dock_text a lent) ≤ 140000
unfolding dock_text
length_docked a lent =
    let A : List ℕ = first_line a.kind a.number a.place in
    let P : List ℕ = bytes_text a.kind a.number (take a.count lent) in
    let T : List ℕ = touched_text (take a.room lent) a.count in
    omega (
      arith,
      length-append (A ++ P) T,
      length-append A P,
      length-first a.kind a.number a.place,
      length_bytes a.kind a.number (take a.count lent),
      length_touched (take a.room lent) a.count,
    )

pub docked_puts : (r : Docked) (lent whole part d x y z : List ℕ) (count m k e : ℕ) → 140000 ≤ length d → whole ≡ take r.room lent → count ≡ count_said r.said
    → part ≡ take count lent → Puts d 0 (first_line (kind_said r.said) (number_said r.said) (place_said r.said)) x m
    → y ≡ stored_in 134000 x m (bytes_text (kind_said r.said) (number_said r.said) part)
    → k ≡ ended_in 134000 x m (bytes_text (kind_said r.said) (number_said r.said) part)
    → z ≡ stored y k (touched_text whole count) → e ≡ ended y k (touched_text whole count) → Puts d 0 (dock_text (heard r) lent) z e
unfolding dock_text
docked_puts r lent whole part d x y z count m k e long is_whole is_count is_part one is_y is_k is_z is_e =
    let s : Said = r.said in
    let A : List ℕ = first_line (kind_said s) (number_said s) (place_said s) in
    let P : List ℕ = bytes_text (kind_said s) (number_said s) part in
    rw (← is_count, ← is_part, ← is_whole)
    (three_puts A P (touched_text whole count) d x y z m k e (length-first (kind_said s) (number_said s) (place_said s)) long one is_y is_k is_z is_e)
