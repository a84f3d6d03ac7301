-- What holds of every making. Each is a statement; proofs/ has the proof under the same name in lower case.
use Rattle.std.specs.Prelude.{true, ◌≡◌, length}
use Rattle.conduct.specs.Promises.{Leaves, Tidy}
use Rattle.device.specs.declared.Device.{Device}
use Rattle.offer.specs.declared.Offer.{Offer}
use Rattle.paper.specs.Told.{said}
use Rattle.paper.specs.declared.Answer.{Answer}
use Rattle.table.specs.Elements.{identifiers, ascending}
use Rattle.making.specs.Making.{made_of}

-- no second answer fits, and no second device
abbrev pub OneDevice : Type 0
OneDevice = (d : Device) (o : Offer) (a b : Answer) (x y : Device) → said a x ≡ made_of d o → said b y ≡ made_of d o → (a ≡ b) × (x ≡ y)

-- "Every number but 0 leaves the device .. untouched."
abbrev pub RefusalMakesNone : Type 0
RefusalMakesNone = (d : Device) (o : Offer) → Leaves d (made_of d o)

-- a device that was answered 0 is tidy and its identifiers ascend, whatever was there: the first making goes into wild bytes
abbrev pub MadeTidy : Type 0
MadeTidy = (there : Device) (o : Offer) → length o.elements ≡ 128 → (made_of there o).number ≡ 0 → Tidy (made_of there o).state

abbrev pub MadeInOrder : Type 0
MadeInOrder =
    (there : Device) (o : Offer) → length o.elements ≡ 128 → (made_of there o).number ≡ 0
    → ascending 0 (identifiers (made_of there o).state.table) ≡ true
