-- What holds of every conversion. Each is a statement; proofs/ has the proof under the same name in lower case.
use Rattle.std.specs.Prelude.{ℕ, ◌+◌, ◌*◌, ◌<◌, List, Result, Ok, ◌≡◌, length, get_or, ⊤}
use Rattle.layout.specs.Bytes.{header_in}
use Rattle.layout.specs.Reserved.{in_header, in_descriptor}
use Rattle.offences.specs.Checks.{base_of}
use Rattle.offences.specs.declared.Offence.{Offence}
use Rattle.paper.specs.Told.{Told}
use Rattle.query.specs.declared.Query.{Query}
use Rattle.words.specs.declared.Order.{Order}
use Rattle.convert.specs.Convert.{turned, paged, ata_offence, Outcome, heard, outcome, buffer_of}
use Rattle.convert.specs.declared.Refusal.{Refusal}

-- no second answer fits, and no second buffer
abbrev pub OneOutcome : Type 0
OneOutcome = (t : Told Outcome) (a b : Result ℕ Refusal) (x y : List ℕ) → heard a x ≡ t → heard b y ≡ t → (a ≡ b) × (x ≡ y)

-- "Every number but 0 leaves .. every lent buffer untouched."
abbrev pub RefusalLeavesBytes : Type 0
RefusalLeavesBytes = (f : Result ⊤ Offence) (bytes buf : List ℕ) → ((outcome f bytes buf).number ≡ 0 → ⊥) → buffer_of (outcome f bytes buf).state ≡ buf

-- "exactly the bytes (32 + 32N, or 512p)"
abbrev pub DataBytes : Type 0
DataBytes = (from to : Order) (s : List ℕ) → length (turned from to s) ≡ 32 + 32 * (header_in from s).number

abbrev pub PageBytes : Type 0
PageBytes = (s : List ℕ) (q : Query) (p : ℕ) → ata_offence s q p ≡ Ok tt → length (paged p s) ≡ 512 * p

-- "Reserved bytes become zero": of each byte of the header and of the descriptors all is looked at. A page is these, and zeros
abbrev pub ReservedZeroed : Type 0
ReservedZeroed =
    (from to : Order) (s : List ℕ)
    → ((at : ℕ) → at < 32 → in_header at (get_or (turned from to s) at 0) ≡ get_or (turned from to s) at 0)
    × ((k at : ℕ) → k < (header_in from s).number → at < 32
    → in_descriptor at (get_or (turned from to s) (base_of k + at) 0) ≡ get_or (turned from to s) (base_of k + at) 0)
