-- What holds of an image. Each is a statement; proofs/ has the proof under the same name in lower case.
use Rattle.std.specs.Prelude.{◌≡◌}
use Rattle.device.specs.Machine.{Event, comreset, hardware_reset, software_reset, told}
use Rattle.making.specs.Making.{made_of}
use Rattle.offer.specs.declared.Offer.{Offer}
use Rattle.paper.specs.Told.{tells}
use Rattle.image.specs.Calls.{told_of, made_by}
use Rattle.image.specs.Keeping.{keeps}
use Rattle.image.specs.Reading.{device_of}
use Rattle.image.specs.declared.Image.{Image}

-- ## What is put down is what is read

-- whatever the bytes were: the number that the call by value tells, and the device that it leaves
abbrev pub ReadsOn : Type 0
ReadsOn =
    (i : Image) (e : Event)
    → ((told_of i e).number ≡ (told (device_of i) e).number) × (device_of (told_of i e).state ≡ (told (device_of i) e).state)

abbrev pub ReadsMade : Type 0
ReadsMade =
    (i : Image) (o : Offer)
    → ((made_by i o).number ≡ (made_of (device_of i) o).number) × (device_of (made_by i o).state ≡ (made_of (device_of i) o).state)

-- ## A byte that need not change does not

-- a device that is put down where it is already leaves every byte
abbrev pub KeptStays : Type 0
KeptStays = (i : Image) → keeps i (device_of i) ≡ i

-- so a refusal does, of junk too
abbrev pub RefusalLeavesImage : Type 0
RefusalLeavesImage = (i : Image) (e : Event) → ((told_of i e).number ≡ 0 → ⊥) → (told_of i e).state ≡ i

abbrev pub RefusedMakingLeaves : Type 0
RefusedMakingLeaves = (i : Image) (o : Offer) → ((made_by i o).number ≡ 0 → ⊥) → (made_by i o).state ≡ i

-- and a reset
abbrev pub ResetLeavesImage : Type 0
ResetLeavesImage = (i : Image) → (told_of i comreset ≡ tells 0 i) × (told_of i hardware_reset ≡ tells 0 i) × (told_of i software_reset ≡ tells 0 i)
