-- What an array of N holds while a list is copied into it, element by element: after i turns the list's first i, and blanks.
use Prim.Native.Nat.{ℕ, suc, ◌+◌, ◌-◌, ◌<◌}
use mathlib.Core.List.{List, [], ◌∷◌, ◌++◌, append_assoc}
use mathlib.Core.Path.{◌≡◌, sym}
use native.Mathlib.Numerals.{add-one}
use native.Mathlib.Omega.{arith}
use lib.ListN.{length, get_or, set, take, replicate, length-take}
use lib.Seq.{take-suc, set_at}

module _ {X : Type 0} (N : ℕ) (blank : X) (ys : List X) where
  abbrev pub held : ℕ → List X
  held i = take i ys ++ replicate (N - i) blank

  pub held_next : (i : ℕ) → i < N → i < length ys → set (held i) i (get_or ys i blank) ≡ held (i + 1)
  held_next i m l =
      let one : N - i ≡ suc (N - (i + 1)) = omega arith in
      let long : length (take i ys) ≡ i = simp length-take (omega arith) in
      rw (one, set_at (take i ys) blank (replicate (N - (i + 1)) blank) (get_or ys i blank) i long, add-one i, take-suc ys i blank l)
      (sym (append_assoc (take i ys) (get_or ys i blank ∷ []) (replicate (N - suc i) blank)))
