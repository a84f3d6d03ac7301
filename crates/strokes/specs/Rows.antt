-- A row, and a number that is repeated, as bytes.
use Rattle.std.specs.Prelude.{ℕ, List, ◌++◌, replicate}
use Rattle.slices.specs.Lists.{flat}
use Rattle.words.specs.Bytes.{low_bytes}
use Rattle.strokes.specs.declared.Row.{Row}

-- the 32 bytes of a row
unfoldable pub row_bytes : Row → List ℕ
row_bytes r = low_bytes 8 r.first ++ low_bytes 8 r.second ++ low_bytes 8 r.third ++ low_bytes 8 r.fourth

-- the four low bytes of a number, n times
abbrev pub times : ℕ → ℕ → List ℕ
times n x = flat (low_bytes 4) (replicate n x)
