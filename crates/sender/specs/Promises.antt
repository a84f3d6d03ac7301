-- What holds of all that is sent. Each is a statement; proofs/ has the proof under the same name in lower case.
use Rattle.std.specs.Prelude.{ℕ, ◌+◌, ◌*◌, min, List, ◌≡◌, length, take}
use Rattle.device.specs.declared.Device.{Device}
use Rattle.paper.specs.Output.{output}
use Rattle.query.specs.declared.Query.{Query}
use Rattle.words.specs.declared.Order.{Order}
use Rattle.sender.specs.Sent.{sent_header, data_of, sent}

-- "Every number but 0 leaves .. every lent buffer untouched."
abbrev pub UnsentLeavesBytes : Type 0
UnsentLeavesBytes = (d : Device) (q : Query) (a : ℕ) (buf : List ℕ) → ((sent d q a buf).number ≡ 0 → ⊥) → (sent d q a buf).state ≡ output 0 buf

-- "the bytes to be written, the smaller of the allocation length and 32 + 32N"
abbrev pub SendsTheSmaller : Type 0
SendsTheSmaller = (o : Order) (d : Device) (q : Query) (a : ℕ) → length (take a (data_of o d q)) ≡ min a (32 + 32 * (sent_header d q).number)
