-- The search by identifier in an offered table, as in one that is built; on an ascending list it finds exactly the members (specs/Promises:
-- `FindSound`, `FindMember`).
use Rattle.std.specs.Prelude.{ℕ, cond, Option, None, Some, List, get_or}
use Rattle.table.specs.Search.{place, hits}
use Rattle.offer.specs.Elements.{blank, element_ids}
use Rattle.offer.specs.declared.Element.{Element}

-- the element of an identifier in an offered list
unfoldable pub find : ℕ → List Element → Option Element
find id es = cond (hits id (element_ids es)) (Some (get_or es (place id (element_ids es)) blank)) None
