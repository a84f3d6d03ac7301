-- For the promises of private functions: no reader has to believe it.
use Rattle.std.specs.Prelude.{ℕ, List, ◌≡◌}
use Rattle.layout.specs.Bytes.{descriptor_bytes, descriptor_in}
use Rattle.layout.specs.declared.Descriptor.{Descriptor}
use Rattle.strokes.specs.Rows.{row_bytes}
use Rattle.strokes.specs.declared.Row.{Row}
use Rattle.words.specs.declared.Order.TheVariants.{Little, Big}
use Rattle.words.specs.declared.Order.{Order}

abbrev pub other : Order → Order
other Little = Big
other Big = Little

-- the descriptor that some bytes start with, in another order
pub record Turned (from to : Order) (s : List ℕ) (r : Row) : Type 0 where
  pub descriptor : Descriptor
  pub read : descriptor ≡ descriptor_in from s
  pub written : row_bytes r ≡ descriptor_bytes to descriptor
