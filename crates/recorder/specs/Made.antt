-- A new device of the caller's list, in the place of the one that was lent.
use Rattle.std.specs.Prelude.{ℕ, List}
use Rattle.calls.specs.Offered.{made_from}
use Rattle.image.specs.Calls.{made_as}
use Rattle.image.specs.Reading.{device_of}
use Rattle.image.specs.declared.Image.{Image}
use Rattle.offer.specs.declared.Element.{Element}
use Rattle.paper.specs.Told.{Told}

-- what the making by value tells, put down: a new image, or 8 and the image that was there
abbrev pub made_in : Image → List Element → ℕ → Told Image
made_in i es limit = made_as i (made_from (device_of i) es limit)
