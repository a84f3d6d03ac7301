-- The first of an array: the code goes over n, the count or 128, the definitions over the count.
use Prim.Native.Nat.{ℕ, min}
use mathlib.Core.List.{List}
use mathlib.Core.Path.{◌≡◌, sym}
use lib.ListN.{length, take, length-take}
use Rattle.slices.proofs.Lists.{take_min}

module _ {A : Type 0} (l : List A) (count n : ℕ) (full : length l ≡ 128) (is_n : n ≡ min count 128) where
  pub taken : take n l ≡ take count l
  taken = rw is_n (rw (sym full) (take_min count l))

  pub length_taken : length (take count l) ≡ n
  length_taken = rw (length-take count l, full) (sym is_n)
