-- 000, table 12: its rows, its columns, and the code's table beside the definition (specs/Promises).
use Prim.Native.Nat.{◌<◌}
use mathlib.Core.Path.{refl}
use lib.Dec.{lit<}
use Rattle.paper.specs.Promises.{GridRight}
use Rattle.paper.specs.Table12.{row_of, column_of}
use Rattle.paper.specs.declared.Command.TheVariants.{Remove, Status}
use Rattle.paper.specs.declared.Command.{Command}
use Rattle.paper.specs.declared.Security.TheVariants.{Locked, Unlocked, Frozen}
use Rattle.paper.specs.declared.Security.{Security}

pub row_below : (k : Command) → row_of k < 2
row_below Remove = lit< tt
row_below Status = lit< tt

pub column_below : (s : Security) → column_of s < 3
column_below Locked = lit< tt
column_below Unlocked = lit< tt
column_below Frozen = lit< tt

pub grid_right : GridRight
grid_right Remove Locked = refl
grid_right Remove Unlocked = refl
grid_right Remove Frozen = refl
grid_right Status Locked = refl
grid_right Status Unlocked = refl
grid_right Status Frozen = refl
