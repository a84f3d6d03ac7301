-- Where the input is cut does not matter, and a line is kept whole up to 200 bytes (specs/Promises).
use Prim.Native.Nat.{ℕ, suc, ◌+◌, ◌-◌, ◌≤◌, ◌<◌, min}
use mathlib.Core.Bool.{Bool, true, false, not, cond, ◌&&◌, false≢true}
use mathlib.Core.List.{List, [], ◌∷◌, ◌++◌, append-nil}
use mathlib.Core.Path.{◌≡◌, refl, sym, ap, ◌∙◌}
use native.Mathlib.Nat.{add-zero}
use native.Mathlib.Omega.{arith}
use lib.Dec.{eqb, ltb}
use lib.ListN.{drop, length-drop, length, replicate, length-append}
use lib.Seq.{take-append_seam, append_snoc}
use borrow.Author.Tests.{lt-ltb, ltb-true, ltb-false}
use Rattle.slices.proofs.Lists.{padded, padded_more}
use Rattle.pieces.specs.Pieces.{nothing, pushed, gathered, taken_from}
use Rattle.pieces.specs.Promises.{CutAnywhere, no_newline, EndsAtNewline, GoesOn, PlaceCounts, KeptWhole, LongerTold}
use Rattle.pieces.specs.declared.Gathered.{Gathered}
use Rattle.pieces.specs.declared.Taken.{Taken}

-- ## Pieces

pub cut_anywhere : CutAnywhere
unfolding taken_from
cut_anywhere g [] b at = (λ e. absurd (false≢true e), λ e. refl)
cut_anywhere g (x ∷ a) b at = by_test (eqb x 10) (cut_anywhere (pushed g x) a b (at + 1))
  where
    ended : Taken
    ended = record { line = g; at = at + 1; whole = true }

    by_test : (t : Bool)
        → ((taken_from (pushed g x) a (at + 1)).whole ≡ true → taken_from (pushed g x) (a ++ b) (at + 1) ≡ taken_from (pushed g x) a (at + 1))
        × ((taken_from (pushed g x) a (at + 1)).whole ≡ false
        → taken_from (pushed g x) (a ++ b) (at + 1) ≡ taken_from (taken_from (pushed g x) a (at + 1)).line b (taken_from (pushed g x) a (at + 1)).at)
        → ((cond t ended (taken_from (pushed g x) a (at + 1))).whole ≡ true
        → cond t ended (taken_from (pushed g x) (a ++ b) (at + 1)) ≡ cond t ended (taken_from (pushed g x) a (at + 1)))
        × ((cond t ended (taken_from (pushed g x) a (at + 1))).whole ≡ false
        → cond t ended (taken_from (pushed g x) (a ++ b) (at + 1))
        ≡ taken_from (cond t ended (taken_from (pushed g x) a (at + 1))).line b (cond t ended (taken_from (pushed g x) a (at + 1))).at)
    by_test true h = (λ e. refl, λ e. absurd (false≢true (sym e)))
    by_test false h = h

pub ends_at_newline : EndsAtNewline
unfolding taken_from gathered
ends_at_newline g [] rest at none = rw (add-zero at)
ends_at_newline g (x ∷ l) rest at none = by_test (eqb x 10) none (ends_at_newline (pushed g x) l rest (at + 1))
  where
    by_test : (t : Bool) → (not t && no_newline l) ≡ true
        → (no_newline l ≡ true → taken_from (pushed g x) (l ++ (10 ∷ rest)) (at + 1) ≡ record { line = gathered (pushed g x) l; at = at + 1 + length l + 1; whole = true })
        → cond t (record { line = g; at = at + 1; whole = true }) (taken_from (pushed g x) (l ++ (10 ∷ rest)) (at + 1))
        ≡ record { line = gathered (pushed g x) l; at = at + suc (length l) + 1; whole = true }
    by_test true e h = absurd (false≢true e)
    by_test false e h =
        let same : at + 1 + length l + 1 ≡ at + suc (length l) + 1 = omega arith in
        h e ∙ rw same

pub goes_on : GoesOn
unfolding taken_from gathered
goes_on g [] at none = rw (add-zero at)
goes_on g (x ∷ l) at none = by_test (eqb x 10) none (goes_on (pushed g x) l (at + 1))
  where
    by_test : (t : Bool) → (not t && no_newline l) ≡ true
        → (no_newline l ≡ true → taken_from (pushed g x) l (at + 1) ≡ record { line = gathered (pushed g x) l; at = at + 1 + length l; whole = false })
        → cond t (record { line = g; at = at + 1; whole = true }) (taken_from (pushed g x) l (at + 1))
        ≡ record { line = gathered (pushed g x) l; at = at + suc (length l); whole = false }
    by_test true e h = absurd (false≢true e)
    by_test false e h =
        let same : at + 1 + length l ≡ at + suc (length l) = omega arith in
        h e ∙ rw same

later : ℕ → Taken → Taken
later n t = record { line = t.line; at = n + t.at; whole = t.whole }

moved : (g : Gathered) (l : List ℕ) (m n : ℕ) → taken_from g l (n + m) ≡ later n (taken_from g l m)
unfolding taken_from later
moved g [] m n = refl
moved g (x ∷ l) m n = by_test (eqb x 10) (moved (pushed g x) l (m + 1) n)
  where
    next : n + m + 1 ≡ n + (m + 1)
    next = omega arith

    by_test : (t : Bool) → taken_from (pushed g x) l (n + (m + 1)) ≡ later n (taken_from (pushed g x) l (m + 1))
        → cond t (record { line = g; at = n + m + 1; whole = true }) (taken_from (pushed g x) l (n + m + 1))
        ≡ later n (cond t (record { line = g; at = m + 1; whole = true }) (taken_from (pushed g x) l (m + 1)))
    by_test true h = rw next
    by_test false h = rw next h

pub place_counts : PlaceCounts
unfolding later
place_counts g l at = ap (taken_from g l) (sym (add-zero at)) ∙ moved g l 0 at

not_back : (g : Gathered) (l : List ℕ) (at : ℕ) → at ≤ (taken_from g l at).at
unfolding later
not_back g l at = rw (ap (λ (t : Taken). t.at) (place_counts g l at)) (omega arith)

goes_further : (g : Gathered) (l : List ℕ) (at : ℕ) → 0 < length l → at < (taken_from g l at).at
unfolding taken_from
goes_further g [] at h = absurd (omega arith)
goes_further g (x ∷ l) at h = by_test (eqb x 10)
  where
    by_test : (t : Bool) → at < (cond t (record { line = g; at = at + 1; whole = true }) (taken_from (pushed g x) l (at + 1))).at
    by_test true = omega arith
    by_test false = omega (arith, not_back (pushed g x) l (at + 1))

-- for a loop over a piece: less of it is left
pub taken_further : (g : Gathered) (piece : List ℕ) (from : ℕ) (t : Taken) → t ≡ taken_from g (drop from piece) from → from < length piece
    → length piece - t.at < length piece - from
taken_further g piece from t e h =
    let further : from < t.at = rw e (goes_further g (drop from piece) from (rw (length-drop from piece) (omega arith))) in
    omega arith

-- ## A gathered line

pushed_len : (g : Gathered) (b : ℕ) → g.len ≤ 201 → (pushed g b).len ≡ min (g.len + 1) 201
pushed_len g b h = by_test (ltb g.len 200) refl
  where
    by_test : (t : Bool) → ltb g.len 200 ≡ t → (pushed g b).len ≡ min (g.len + 1) 201
    by_test true e = rw e (omega (arith, ltb-true g.len 200 e))
    by_test false e = rw e (omega (arith, ltb-false g.len 200 e))

gathered_len : (g : Gathered) (l : List ℕ) → g.len ≤ 201 → (gathered g l).len ≡ min (g.len + length l) 201
unfolding gathered
gathered_len g [] h = omega arith
gathered_len g (b ∷ l) h = gathered_len (pushed g b) l (omega (arith, pushed_len g b h)) ∙ omega (arith, pushed_len g b h)

holding : List ℕ → Gathered
holding l = record { bytes = padded 0 200 l; len = length l }

holding_all : (p l : List ℕ) → length p + length l ≤ 200 → gathered (holding p) l ≡ holding (p ++ l)
unfolding gathered holding
holding_all p [] h = ap holding (sym (append-nil p))
holding_all p (b ∷ l) h =
    let long : length p + 1 ≡ length (p ++ (b ∷ [])) = simp length-append in
    let room : length p < 200 = omega arith in
    let fits : length (p ++ (b ∷ [])) + length l ≤ 200 = omega arith in
    let one : pushed (holding p) b ≡ holding (p ++ (b ∷ [])) = rw (lt-ltb _ _ room) (λ i. record { bytes = padded_more 0 200 p b room i; len = long i }) in
    ap (λ (g : Gathered). gathered g l) one ∙ (holding_all (p ++ (b ∷ [])) l fits ∙ ap holding (append_snoc p b l))

pub kept_whole : KeptWhole
unfolding holding
kept_whole l h =
    let all : gathered nothing l ≡ holding l = holding_all [] l (omega arith) in
    (ap (λ (g : Gathered). g.len) all, rw all (take-append_seam l (replicate (200 - length l) 0)))

pub longer_told : LongerTold
longer_told l h = gathered_len nothing l (omega arith) ∙ omega arith
