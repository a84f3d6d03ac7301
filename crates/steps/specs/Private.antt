-- For the promises of private functions: no reader has to believe it. What the code of a step need not look at.
use Rattle.std.specs.Prelude.{Option, ◌≡◌}
use Rattle.cells.specs.declared.Position.{Position}
use Rattle.cells.specs.declared.Removal.{Removal}
use Rattle.cells.specs.declared.Seen.{Seen}
use Rattle.steps.specs.Steps.{store_from}

-- the step's store is the same from either
abbrev pub Alike : Position → Option Seen → Option Seen → Type 0
Alike p x y = (w : Removal) → store_from x w p ≡ store_from y w p

-- the step need not look at the noted element
abbrev pub Blind : Position → Type 0
Blind p = (x y : Option Seen) → Alike p x y
