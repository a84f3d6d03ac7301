-- What holds of the check and of the search. Each is a statement; proofs/ has the proof under the same name in lower case.
use Rattle.std.specs.Prelude.{ℕ, ◌<◌, true, Option, Some, List, ◌≡◌, length, get_or}
use Rattle.table.specs.Elements.{ascending}
use Rattle.offer.specs.Check.{verdict}
use Rattle.offer.specs.Elements.{blank, element_ids}
use Rattle.offer.specs.Search.{find}
use Rattle.offer.specs.declared.Element.{Element}

-- no second answer fits the check's promise
abbrev pub VerdictInjective : Type 0
VerdictInjective = (x y : Option ℕ) → verdict x ≡ verdict y → x ≡ y

-- an element that is found is in the list, under its identifier
abbrev pub FindSound : Type 0
FindSound =
    (id : ℕ) (es : List Element) (e : Element) → find id es ≡ Some e → (i : ℕ) × (i < length es) × (get_or es i blank ≡ e) × (e.id.0 ≡ id)

-- and on an ascending list each is found
abbrev pub FindMember : Type 0
FindMember =
    (low : ℕ) (es : List Element) (i : ℕ) → ascending low (element_ids es) ≡ true → i < length es → find (get_or es i blank).id.0 es ≡ Some (get_or es i blank)
