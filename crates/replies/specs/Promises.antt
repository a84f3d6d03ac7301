-- What holds of every reply. It is a statement; proofs/ has the proof under the same name in lower case.
use Rattle.std.specs.Prelude.{ℕ, ◌≤◌, List, length}
use Rattle.acts.specs.Acts.{Saying}
use Rattle.device.specs.declared.Device.{Device}
use Rattle.replies.specs.Replies.{text_of}

-- room for every reply
abbrev pub Enough : Type 0
Enough = (s : Saying) (d : Device) (page lent : List ℕ) → length (text_of s d page lent) ≤ 140000
