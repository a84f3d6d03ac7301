-- Numbers stored one after the other: a law for each way out.
use Prim.Native.Nat.{ℕ, zero, suc, ◌+◌, ◌-◌, ◌*◌, ◌/◌, ◌%◌, ◌^◌, ◌≤◌, ◌<◌}
use mathlib.Core.Bool.{Bool, true, false}
use mathlib.Core.List.{List, ◌++◌, append-nil}
use mathlib.Core.Path.{◌≡◌, refl, sym, ap, ◌∙◌, subst}
use native.Mathlib.Omega.{arith}
use lib.Dec.{leb}
use lib.ListN.{length, take, drop, set, replicate, length-replicate, replicate-append-replicate}
use lib.Seq.{take_all}
use borrow.Author.Tests.{le-leb, lt-leb, leb-true, leb-false}
use Rattle.slices.proofs.Lists.{stored_none, stored_more, stored-set, stored_no, length-stored, fits_there, part_stored, length-flat, flat_append, cut_more}
use Rattle.slices.specs.Lists.{fits, flat, stored}
use Rattle.words.proofs.Bytes.{length_low, low_split, take_low}
use Rattle.words.specs.Bytes.{low_bytes}
use Rattle.strokes.specs.Rows.{row_bytes, times}
use Rattle.strokes.specs.declared.Row.{Row}

-- ## The low bytes of a number

pub low_put : (d out b : List ℕ) (at w x : ℕ) → b ≡ low_bytes w x → out ≡ stored d at b → out ≡ stored d at (low_bytes w x)
low_put d out b at w x is_b is_out = is_out ∙ ap (stored d at) is_b

module _ (d : List ℕ) (at x n : ℕ) (room : at + n ≤ length d) where
  pub low_one : n ≡ 1 → set d at (x % 256) ≡ stored d at (low_bytes n x)
  low_one e = rw e (stored-set d at (x % 256) (omega arith))

  pub low_none : n ≤ 1 → (n ≡ 1 → ⊥) → d ≡ stored d at (low_bytes n x)
  low_none few ne =
      let none : n ≡ 0 = omega arith in
      sym (rw none (stored_none d at))

  -- the first v of them, and the rest
  low_more : (v : ℕ) → v ≤ n → (b y z : List ℕ) → b ≡ low_bytes v (x % 256 ^ v) → y ≡ stored d at b
      → z ≡ stored y (at + v) (low_bytes (n - v) (x / 256 ^ v)) → z ≡ stored d at (low_bytes n x)
  low_more v less b y z is_b is_y is_z =
      let A : List ℕ = low_bytes v (x % 256 ^ v) in
      let B : List ℕ = low_bytes (n - v) (x / 256 ^ v) in
      let all : n ≡ v + (n - v) = omega arith in
      let both : low_bytes n x ≡ A ++ B = ap (λ (m : ℕ). low_bytes m x) all ∙ low_split v (n - v) x in
      let long : length A ≡ v = length_low v (x % 256 ^ v) in
      let room_both : at + length (A ++ B) ≤ length d = rw (← both, length_low n x) room in
      is_z ∙ (λ i. stored ((is_y ∙ ap (stored d at) is_b) i) (at + sym long i) B) ∙ stored_more d at A B room_both ∙ ap (stored d at) (sym both)

  pub low_two : 2 ≤ n → (b y z : List ℕ) → b ≡ low_bytes 2 (x % 65536) → y ≡ stored d at b → z ≡ stored y (at + 2) (low_bytes (n - 2) (x / 65536))
      → z ≡ stored d at (low_bytes n x)
  low_two = low_more 2

  pub low_four : 4 ≤ n → (b y z : List ℕ) → b ≡ low_bytes 4 (x % 4294967296) → y ≡ stored d at b → z ≡ stored y (at + 4) (low_bytes (n - 4) (x / 4294967296))
      → z ≡ stored d at (low_bytes n x)
  low_four = low_more 4

-- ## As many bytes as there is room for

module _ (d : List ℕ) (at x : ℕ) (t : Bool) (is_t : t ≡ fits 8 at (length d)) where
  pub some_few : t ≡ false → length d - at ≤ 7
  some_few n = omega (arith, leb-false (at + 8) (length d) (sym is_t ∙ n))

  pub some_all : t ≡ true → (y : List ℕ) → y ≡ stored d at (low_bytes 8 x) → y ≡ stored d at (take (length d - at) (low_bytes 8 x))
  some_all so y is_y =
      is_y ∙ ap (stored d at) (sym (take_all (length d - at) (low_bytes 8 x) (omega (arith, fits_there 8 at (length d) t is_t so, length_low 8 x))))

  pub some_low : t ≡ false → at < length d → (y : List ℕ) → y ≡ stored d at (low_bytes (length d - at) x) → y ≡ stored d at (take (length d - at) (low_bytes 8 x))
  some_low n less y is_y =
      is_y ∙ ap (stored d at) (sym (take_low (length d - at) 8 x (omega (arith, leb-false (at + 8) (length d) (sym is_t ∙ n)))))

-- ## A row

pub place-fits : (at k room : ℕ) (t : Bool) → t ≡ fits 32 at room → t ≡ true → room < 2 ^ 64 → k ≤ 32 → at + k < 2 ^ 64
place-fits at k room t is_t so small less = omega (arith, fits_there 32 at room t is_t so)

module _ (d : List ℕ) (at : ℕ) (r : Row) where
  module _ (t : Bool) (is_t : t ≡ fits 32 at (length d)) where
    pub row_none : t ≡ false → d ≡ stored d at (row_bytes r)
    unfolding row_bytes
    row_none = stored_no d (row_bytes r) at t is_t

    pub row_put : t ≡ true → (x y z w : List ℕ) → x ≡ stored d at (low_bytes 8 r.first) → y ≡ stored x (at + 8) (low_bytes 8 r.second)
        → z ≡ stored y (at + 16) (low_bytes 8 r.third) → w ≡ stored z (at + 24) (low_bytes 8 r.fourth) → w ≡ stored d at (row_bytes r)
    unfolding row_bytes
    row_put so x y z w is_x is_y is_z is_w =
        let A : List ℕ = low_bytes 8 r.first in
        let B : List ℕ = low_bytes 8 r.second in
        let C : List ℕ = low_bytes 8 r.third in
        let D : List ℕ = low_bytes 8 r.fourth in
        let room : at + 32 ≤ length d = fits_there 32 at (length d) t is_t so in
        let two : y ≡ stored d at (A ++ B) = is_y ∙ ap (λ (l : List ℕ). stored l (at + 8) B) is_x ∙ stored_more d at A B (omega arith) in
        let three : z ≡ stored d at ((A ++ B) ++ C) = is_z ∙ ap (λ (l : List ℕ). stored l (at + 16) C) two ∙ stored_more d at (A ++ B) C (omega arith) in
        is_w ∙ ap (λ (l : List ℕ). stored l (at + 24) D) three ∙ stored_more d at ((A ++ B) ++ C) D (omega arith)

  pub row_some : (x y z w : List ℕ) → x ≡ stored d at (take (length d - at) (low_bytes 8 r.first))
      → y ≡ stored x (at + 8) (take (length x - (at + 8)) (low_bytes 8 r.second))
      → z ≡ stored y (at + 16) (take (length y - (at + 16)) (low_bytes 8 r.third))
      → w ≡ stored z (at + 24) (take (length z - (at + 24)) (low_bytes 8 r.fourth)) → w ≡ stored d at (take (length d - at) (row_bytes r))
  unfolding row_bytes
  row_some x y z w is_x is_y is_z is_w =
      let A : List ℕ = low_bytes 8 r.first in
      let B : List ℕ = low_bytes 8 r.second in
      let C : List ℕ = low_bytes 8 r.third in
      let D : List ℕ = low_bytes 8 r.fourth in
      cut_more d at ((A ++ B) ++ C) D z w (cut_more d at (A ++ B) C y z (cut_more d at A B x y is_x is_y) is_z) is_w

-- ## A number, repeated

pub fit_none : (n at room : ℕ) → room < at → false ≡ fits (4 * n) at room
fit_none n at room h = sym (lt-leb (at + 4 * n) room (omega arith))

pub fit_rest : (n at room : ℕ) → at ≤ room → leb n ((room - at) / 4) ≡ fits (4 * n) at room
fit_rest n at room h = by_test (leb n ((room - at) / 4)) refl
  where
    by_test : (t : Bool) → leb n ((room - at) / 4) ≡ t → leb n ((room - at) / 4) ≡ fits (4 * n) at room
    by_test true e = e ∙ sym (le-leb (at + 4 * n) room (omega (arith, leb-true n ((room - at) / 4) e)))
    by_test false e = e ∙ sym (lt-leb (at + 4 * n) room (omega (arith, leb-false n ((room - at) / 4) e)))

length-times : (n x : ℕ) → length (times n x) ≡ 4 * n
length-times n x = length-flat (low_bytes 4) 4 (length_low 4) (replicate n x) ∙ rw length-replicate

pub times_zero : (n : ℕ) → times n 0 ≡ replicate (4 * n) 0
times_zero zero = refl
times_zero (suc n) =
    let more : 4 + 4 * n ≡ 4 * suc n = omega arith in
    ap (λ (l : List ℕ). replicate 4 0 ++ l) (times_zero n) ∙ replicate-append-replicate 4 (4 * n) 0 ∙ ap (λ (m : ℕ). replicate {A = ℕ} m 0) more

module _ (d : List ℕ) (at x n : ℕ) where
  -- a loop over n of them, after k
  abbrev pub TimesPut : List ℕ → ℕ → Type 0
  TimesPut y k = (k ≤ n) × (length y ≡ length d) × (y ≡ stored d at (times k x))

  pub put_none : TimesPut d 0
  put_none = (omega arith, refl, sym (stored_none d at))

  module _ (room : at + 4 * n ≤ length d) (y : List ℕ) (k : ℕ) (before : TimesPut y k) where
    put_more : (m : ℕ) → k + m ≤ n → (z : List ℕ) → z ≡ stored y (at + 4 * k) (times m x) → TimesPut z (k + m)
    put_more m few z is_z =
        let both : times k x ++ times m x ≡ times (k + m) x =
        sym (flat_append (low_bytes 4) (replicate k x) (replicate m x)) ∙ ap (flat (low_bytes 4)) (replicate-append-replicate k m x) in
        let long : length (times k x) ≡ 4 * k = length-times k x in
        let fits_both : at + length (times k x ++ times m x) ≤ length d = rw (both, length-times (k + m) x) (omega arith) in (
          few,
          ap length is_z ∙ length-stored y (times m x) (at + 4 * k) ∙ before.1,
          is_z ∙ (λ i. stored (before.2 i) (at + sym long i) (times m x)) ∙ stored_more d at (times k x) (times m x) fits_both ∙ ap (stored d at) both,
        )

    -- one more, in a part of four bytes, which m is
    pub put_one : k < n → (m : ℕ) → m ≡ 4 → (b z : List ℕ) → b ≡ low_bytes 4 x → z ≡ stored (take m (drop (at + 4 * k) y)) 0 b
        → TimesPut (take (at + 4 * k) y ++ (z ++ drop m (drop (at + 4 * k) y))) (k + 1)
    put_one less m is_m b z is_b is_z =
        let wide_b : length b ≡ 4 = ap length is_b in
        put_more 1 (omega arith) _
        (part_stored y b (at + 4 * k) m (omega (arith, before)) (omega arith) z is_z ∙ ap (stored y (at + 4 * k)) (is_b ∙ sym (append-nil (low_bytes 4 x))))

    -- a run of 128 more, after j of them
    pub put_run : (j : ℕ) → k ≡ 128 * j → j < n / 128 → (z : List ℕ) → z ≡ stored y (at + 512 * j) (times 128 x) → TimesPut z (128 * (j + 1))
    put_run j is_k less z is_z =
        let place : at + 512 * j ≡ at + 4 * k = omega arith in
        let next : k + 128 ≡ 128 * (j + 1) = omega arith in
        subst (TimesPut z) next (put_more 128 (omega arith) z (is_z ∙ ap (λ (i : ℕ). stored y i (times 128 x)) place))

    -- what is left after the runs
    pub put_rest : k ≡ 128 * (n / 128) → (z : List ℕ) → z ≡ stored y (at + 512 * (n / 128)) (times (n % 128) x) → z ≡ stored d at (times n x)
    put_rest is_k z is_z =
        let place : at + 512 * (n / 128) ≡ at + 4 * k = omega arith in
        let all : k + n % 128 ≡ n = omega arith in
        (put_more (n % 128) (omega arith) z (is_z ∙ ap (λ (i : ℕ). stored y i (times (n % 128) x)) place)).2 ∙ ap (λ (m : ℕ). stored d at (times m x)) all

    pub put_whole : n ≤ k → y ≡ stored d at (times n x)
    put_whole high =
        let all : k ≡ n = omega (arith, before) in
        before.2 ∙ ap (λ (m : ℕ). stored d at (times m x)) all

  pub times-not : (t : Bool) → t ≡ fits (4 * n) at (length d) → t ≡ false → d ≡ stored d at (times n x)
  times-not t is_t = stored_no d (times n x) at t (is_t ∙ ap (λ (m : ℕ). fits m at (length d)) (sym (length-times n x)))
