-- For the promises of private functions: no reader has to believe it. What the code goes by where it puts a list down as places of the table.
use Rattle.std.specs.Prelude.{ℕ, ◌<◌, List, map, get_or, take}
use Rattle.layout.specs.declared.Descriptor.{Descriptor}
use Rattle.slices.specs.Lists.{Every}
use Rattle.table.specs.Elements.{blank_part}
use Rattle.table.specs.declared.Part.{Part}
use Rattle.view.specs.Shown.{shown_of}

-- each is an index of the table's arrays
abbrev pub Slots : List ℕ → Type 0
Slots places = Every (λ (j : ℕ). j < 128) places

unfoldable pub shown_in : List Part → List ℕ → ℕ → Descriptor
shown_in ps hs place = shown_of (get_or ps place blank_part) (get_or hs place 0)

-- the first n of them, as a page shows them
unfoldable pub shown_there : List Part → List ℕ → List ℕ → ℕ → List Descriptor
shown_there ps hs places n = map (shown_in ps hs) (take n places)
