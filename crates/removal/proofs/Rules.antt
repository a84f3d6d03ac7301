-- The checks: a law for each way out of the code, over plain values, in the contracts' direction. `g` is what the code rules.
use Prim.Native.Nat.{ℕ, ◌+◌, ◌-◌, ◌≤◌, ◌<◌}
use mathlib.Core.Bool.{and-false}
use mathlib.Core.Path.{◌≡◌}
use native.Mathlib.Omega.{arith}
use borrow.Author.Tests.{ne_eqb, lt-ltb, le-ltb}
use Rattle.cells.specs.Rulings.{Ruled, quiet, goes}
use Rattle.cells.specs.declared.Position.TheVariants.{Work1}
use Rattle.cells.specs.declared.Position.{Position}
use Rattle.cells.specs.declared.Store.TheVariants.{Noted}
use Rattle.paper.specs.declared.ElementId.{ElementId}
use Rattle.paper.specs.declared.Lba.{Lba}
use Rattle.removal.specs.Remove.{or_difference, judge_room}

-- ## Checks 3 to 7

module _ (p : Position) (native : Lba) (id : ElementId) (lba : Lba) (blocks : ℕ) (g : Ruled) where
  pub room_small : native.0 ≤ blocks → g ≡ quiet 4 p → g ≡ judge_room p native id lba blocks
  unfolding judge_room
  room_small h z = rw (lt-ltb native.0 (blocks + 1) (omega arith)) z

  pub room_high : blocks < native.0 → native.0 - blocks < lba.0 → g ≡ quiet 4 p → g ≡ judge_room p native id lba blocks
  unfolding judge_room
  room_high h m z =
      rw (le-ltb native.0 (blocks + 1) (omega arith), ne_eqb lba.0 0 (omega arith), lt-ltb native.0 (lba.0 + blocks) (omega arith)) z

  pub room_noted : (new : Lba) → blocks < native.0 → lba.0 ≤ native.0 - blocks → new ≡ or_difference (native.0 - blocks) lba
      → g ≡ goes (Noted (record { element = id; old = native; new = new })) Work1 → g ≡ judge_room p native id lba blocks
  unfolding judge_room
  room_noted new h m is_new z =
      rw (le-ltb native.0 (blocks + 1) (omega arith), le-ltb native.0 (lba.0 + blocks) (omega arith), and-false, ← is_new) z
