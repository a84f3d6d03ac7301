-- "the device's SCSI data is its ATA page converted, where neither is cut", of the code's own calls. Its premises: a page that the front call left;
-- what `to_scsi` promises of it, and `send` of a request with the same fields; and that there is room.
use Rattle.std.specs.Prelude.{ℕ, ◌+◌, ◌*◌, ◌≤◌, List, ◌≡◌, length, take, Result, Ok}
use Rattle.convert.specs.Convert.{heard, to_scsi}
use Rattle.convert.specs.declared.Refusal.{Refusal}
use Rattle.device.specs.declared.Device.{Device}
use Rattle.paper.specs.Answers.{number_of}
use Rattle.paper.specs.Output.{Output, output, wrote, written_of}
use Rattle.paper.specs.Told.{Told, said}
use Rattle.paper.specs.declared.Answer.{Answer}
use Rattle.paper.specs.declared.Written.{Written}
use Rattle.query.specs.Promises.{SameAsked}
use Rattle.query.specs.declared.Query.{Query}
use Rattle.request.specs.declared.Request.{Request}
use Rattle.sender.specs.Sent.{sent_header, sent}
use Rattle.demands.specs.Runs.{AfterRuns, LeftBy}

-- "32 + 32N", of the list that a device has for a request
abbrev pub whole_size : Device → Query → ℕ
whole_size d q = 32 + 32 * (sent_header d q).number

-- so many bytes were converted, as many were sent, and they are the same
pub record OneData (size : ℕ) (c : Result ℕ Refusal) (out : List ℕ) (b : Answer) (count : ℕ) (left : List ℕ) : Type 0 where
  pub turns : c ≡ Ok size
  pub sends : (number_of b ≡ 0) × (count ≡ size)
  pub same : take size out ≡ take size left

-- of a call that sends, by what it says, and what is then of the size, the two answers and the two buffers
abbrev pub Sent : {A : Type 0} → (A → List ℕ → Told Output) → (ℕ → Result ℕ Refusal → List ℕ → A → List ℕ → Type 0) → Type 0
Sent {A} says Then =
    AfterRuns (λ x.
    (r : Request) (page : List ℕ) → LeftBy x r page
    → (p : ℕ) (q : Query) → SameAsked p q r → (sent_header x q).number + 1 ≤ 16 * p
    → (room out : List ℕ) (c : Result ℕ Refusal) → heard c out ≡ to_scsi page r room → whole_size x q ≤ length room
    → (allocation : ℕ) (free left : List ℕ) (a : A) → says a left ≡ sent x q allocation free
    → whole_size x q ≤ allocation → whole_size x q ≤ length free
    → Then (whole_size x q) c out a left)

-- of the lent call: an answer and a count
abbrev pub SendsPage : Type 0
SendsPage = Sent {A = Written} (λ w left. said w.answer (output w.count left)) (λ size c out w left. OneData size c out w.answer w.count left)

-- and of the call by value: a count, or a reason
abbrev pub WritesPage : Type 0
WritesPage = Sent wrote (λ size c out b left. (b ≡ Ok size) × OneData size c out (written_of b).answer (written_of b).count left)
