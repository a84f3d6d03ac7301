-- The count at FFh, where its loop ends.
use Prim.Native.Nat.{ℕ, ◌+◌, ◌≤◌}
use mathlib.Core.List.{List}
use mathlib.Core.Path.{◌≡◌}
use native.Mathlib.Omega.{arith}
use lib.ListN.{length, drop, drop_of_length-le}
use Rattle.table.specs.Elements.{removed_count}

-- `so` is the loop's invariant
module _ (hs : List ℕ) (i k : ℕ) (so : k + removed_count (drop i hs) ≡ removed_count hs) where
  pub tally_end : length hs ≤ i → k ≡ removed_count hs
  tally_end done =
      let none : removed_count (drop i hs) ≡ 0 = rw (drop_of_length-le hs {i = i} done) in
      omega (arith, none)
