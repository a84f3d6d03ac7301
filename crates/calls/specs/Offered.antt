-- Document 01: "a table offered for a new device is checked and searched in the caller's own list of records, then copied into the device".
-- A list of more than 128 records is no table: "1 to 128 elements".
use Rattle.std.specs.Prelude.{ℕ, ◌-◌, cond, Option, None, List, [], ◌∷◌, ◌++◌, leb, length, take, replicate}
use Rattle.device.specs.declared.Device.{Device}
use Rattle.making.specs.Making.{fresh}
use Rattle.offer.specs.Check.{good}
use Rattle.offer.specs.Elements.{blank, block_sum}
use Rattle.offer.specs.Search.{find}
use Rattle.offer.specs.declared.Element.{Element}
use Rattle.offer.specs.declared.Offer.{Offer}
use Rattle.paper.specs.Told.{Told, tells}

-- what the check tells of a list: 0 and the blocks of all, or 8
unfoldable pub check_list : List Element → ℕ → Told (List ℕ)
check_list es limit = cond (good (length es) es limit) (tells 0 (block_sum es ∷ [])) (tells 8 [])

-- the element of an identifier in a list
unfoldable pub find_list : ℕ → List Element → Option Element
find_list id es = cond (leb (length es) 128) (find id es) None

-- the array of a list: its records, as many as the array takes, then blanks
abbrev pub array_of : List Element → List Element
array_of es = take 128 es ++ replicate (128 - length es) blank

abbrev pub offer_of : List Element → ℕ → Offer
offer_of es limit = record { elements = array_of es; count = length es; limit = limit }

-- a new device of a list, or 8 and the device that was there
unfoldable pub made_from : Device → List Element → ℕ → Told Device
made_from d es limit = cond (good (length es) es limit) (tells 0 (fresh (offer_of es limit))) (tells 8 d)
