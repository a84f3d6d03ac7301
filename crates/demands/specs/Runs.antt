-- The runs that the demands speak of, of the code's own calls, and the pages of a device. Each premise is what a call promises (calls/src/lib.rt):
-- the lent making, answered 0, and the calls of a run; and the front call, with 12h, answered 0.
use Rattle.std.specs.Prelude.{ℕ, ◌*◌, List, ◌≡◌, length, take}
use Rattle.calls.specs.Offered.{made_from}
use Rattle.conduct.specs.Fits.{Fits}
use Rattle.device.specs.Machine.{command, told}
use Rattle.device.specs.declared.Device.{Device}
use Rattle.history.specs.Runs.{Script, Ran}
use Rattle.offer.specs.declared.Element.{Element}
use Rattle.paper.specs.Answers.{number_of}
use Rattle.paper.specs.Told.{said}
use Rattle.paper.specs.declared.Answer.{Answer}
use Rattle.paper.specs.declared.Registers.{Registers}
use Rattle.paper.specs.declared.Security.{Security}
use Rattle.request.specs.Requests.{asked, pages_of}
use Rattle.request.specs.declared.Request.{Request}
use Rattle.status.specs.Lent.{lent}

-- of each device that a run leaves
abbrev pub AfterRuns : (Device → Type 0) → Type 0
AfterRuns P =
    (there : Device) (es : List Element) (limit : ℕ) (a : Answer) (d : Device) → (said a d ≡ made_from there es limit) × Fits d → number_of a ≡ 0
    → (s : Script) (ns : List ℕ) (x : Device) → Ran d s ns x → P x

-- a page that the front call left of a device for a request, in any security state and over any lent buffer
pub record LeftBy (x : Device) (q : Request) (page : List ℕ) : Type 0 where
  pub security : Security
  pub registers : Registers
  pub buf : List ℕ
  pub out : List ℕ
  pub answer : Answer
  pub after : Device
  pub status : registers.code ≡ 0x12
  pub asking : asked registers ≡ q
  pub promised : (said answer after ≡ told x (command security registers (length buf))) × (out ≡ lent x security registers buf)
  pub done : number_of answer ≡ 0
  pub filled : page ≡ take (512 * pages_of q) out
