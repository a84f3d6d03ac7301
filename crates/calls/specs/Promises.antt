-- What holds of the lent calls. Each is a statement; proofs/ has the proof under the same name in lower case.
use Rattle.std.specs.Prelude.{ℕ, ◌<◌, true, Option, None, Some, List, [], ◌≡◌, length, get_or}
use Rattle.conduct.specs.Promises.{OneAnswer, Leaves, ButPosition}
use Rattle.device.specs.Machine.{command, told}
use Rattle.device.specs.declared.Device.{Device}
use Rattle.making.specs.Making.{made_of}
use Rattle.offer.specs.Check.{verdict, good}
use Rattle.offer.specs.Elements.{blank}
use Rattle.offer.specs.declared.Element.{Element}
use Rattle.paper.specs.Output.{Output, output}
use Rattle.paper.specs.Told.{Told, tells, said}
use Rattle.paper.specs.declared.Answer.{Answer}
use Rattle.paper.specs.declared.Registers.{Registers}
use Rattle.paper.specs.declared.Security.{Security}
use Rattle.status.specs.Lent.{lent}
use Rattle.status.specs.Promises.{OnePage}
use Rattle.calls.specs.Offered.{check_list, find_list, offer_of, made_from}

-- ## No second answer fits, no second device and no second buffer

abbrev pub OneCommand : Type 0
OneCommand =
    (d : Device) (s : Security) (r : Registers) (buf : List ℕ) (a b : Answer) (x y : Device) (u v : List ℕ)
    → (said a x ≡ told d (command s r (length buf))) × (u ≡ lent d s r buf)
    → (said b y ≡ told d (command s r (length buf))) × (v ≡ lent d s r buf)
    → (a ≡ b) × (x ≡ y) × (u ≡ v)

abbrev pub OneCheck : Type 0
OneCheck = (es : List Element) (limit : ℕ) (a b : Option ℕ) → verdict a ≡ check_list es limit → verdict b ≡ check_list es limit → a ≡ b

abbrev pub OneFind : Type 0
OneFind = (es : List Element) (id : ℕ) (a b : Option Element) → a ≡ find_list id es → b ≡ find_list id es → a ≡ b

abbrev pub OneMaking : Type 0
OneMaking =
    (d : Device) (es : List Element) (limit : ℕ) (a b : Answer) (x y : Device)
    → said a x ≡ made_from d es limit → said b y ≡ made_from d es limit → (a ≡ b) × (x ≡ y)

abbrev pub OneSending : Type 0
OneSending =
    (t : Told Output) (a b : Answer) (m n : ℕ) (x y : List ℕ) → said a (output m x) ≡ t → said b (output n y) ≡ t → (a ≡ b) × (m ≡ n) × (x ≡ y)

-- of every lent call
pub record OneFits : Type 0 where
  pub changing : OneAnswer
  pub command : OneCommand
  pub showing : OnePage
  pub sending : OneSending
  pub checking : OneCheck
  pub finding : OneFind
  pub making : OneMaking

-- ## A list

-- more than 128 records are no table
abbrev pub LongListRefused : Type 0
LongListRefused =
    (d : Device) (es : List Element) (limit id : ℕ) → 128 < length es
    → (check_list es limit ≡ tells 8 []) × (find_list id es ≡ None) × (made_from d es limit ≡ tells 8 d)

-- a device made of a list is the one made of its offer, from which demand 3 starts (demands/specs/Starts, `ListedStarts`)
abbrev pub MadeAlike : Type 0
MadeAlike = (d : Device) (es : List Element) (limit : ℕ) → made_from d es limit ≡ made_of d (offer_of es limit)

-- in a list that is accepted the search finds exactly its records
abbrev pub FindsExactly : Type 0
FindsExactly =
    (es : List Element) (limit : ℕ) → good (length es) es limit ≡ true
    → ((i : ℕ) → i < length es → find_list (get_or es i blank).id.0 es ≡ Some (get_or es i blank))
    × ((id : ℕ) (e : Element) → find_list id es ≡ Some e → (i : ℕ) × (i < length es) × (get_or es i blank ≡ e) × (e.id.0 ≡ id))

-- ## "Only the position in the step list is lost with power."

-- no page shows it; answers and cells are alike by `CutForgets` (conduct/specs/Promises) and `RestsAlike` (history/specs/Runs)
abbrev pub PositionUnshown : Type 0
PositionUnshown = (d x : Device) → ButPosition d x → (s : Security) (r : Registers) (buf : List ℕ) → lent d s r buf ≡ lent x s r buf

-- ## A refusal

-- of the front call, it leaves the device and every byte of the lent buffer
abbrev pub RefusalLeavesBoth : Type 0
RefusalLeavesBoth =
    (d : Device) (s : Security) (r : Registers) (buf : List ℕ) → ((told d (command s r (length buf))).number ≡ 0 → ⊥)
    → ((told d (command s r (length buf))).state ≡ d) × (lent d s r buf ≡ buf)

abbrev pub RefusedListLeaves : Type 0
RefusedListLeaves = (d : Device) (es : List Element) (limit : ℕ) → Leaves d (made_from d es limit)
