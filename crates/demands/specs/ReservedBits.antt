-- Request 2026-05: "now refuses FEATURE 13:12 or 7:0 not zero, or LBA 47:32 not zero", of every call that judges a raw request. Each is a statement;
-- proofs/ has the proof under the same name in lower case.
use Rattle.std.specs.Prelude.{ℕ, true, List, ◌≡◌, length}
use Rattle.convert.specs.Convert as convert
use Rattle.device.specs.Machine.{command, told}
use Rattle.device.specs.declared.Device.{Device}
use Rattle.paper.specs.Told.{tells}
use Rattle.paper.specs.declared.Registers.{Registers}
use Rattle.paper.specs.declared.Security.{Security}
use Rattle.reach.specs.Opening as reach
use Rattle.reach.specs.declared.Turn.TheVariants.{Older}
use Rattle.reader.specs.Judgement as reader
use Rattle.request.specs.Requests.{asked, sets_reserved, refused}
use Rattle.request.specs.declared.Request.{Request}
use Rattle.status.specs.Lent.{lent}
use Rattle.status.specs.Page.{shown}
use Rattle.walk.specs.Next as walk
use Rattle.words.specs.declared.Order.{Order}

pub record RefusedByAll (q : Request) : Type 0 where
  -- "4, .. before the buffer check": by any device, in every security state, however short the buffer is, which stays
  pub show : (d : Device) (s : Security) (buf : List ℕ) → shown d s q buf ≡ tells 4 buf
  -- so by the front call, which leaves the device too
  pub front : (d : Device) (s : Security) (r : Registers) (buf : List ℕ) → r.code ≡ 0x12 → asked r ≡ q
      → (told d (command s r (length buf)) ≡ tells 4 d) × (lent d s r buf ≡ buf)
  -- "the reader treats such a request as refused", whatever the page holds, and so does each call that goes by the reader
  pub read : (o : Order) (s : List ℕ) → reader.read_of o s q ≡ tells 9 (reader.place 0)
  pub next : (s : List ℕ) → walk.next_of s q ≡ tells 9 (walk.place 0)
  pub convert : (s buf : List ℕ) → convert.to_scsi s q buf ≡ tells 9 (convert.place 0 buf)
  -- "9 with the page's turn, older first"
  pub compare : (s t : List ℕ) → reach.open_of s t q ≡ tells 9 (reach.turn Older)

-- one definition serves them all: "A request that would get 4 gets 9"
abbrev pub FourRefused : Type 0
FourRefused = (q : Request) → refused q ≡ true → RefusedByAll q

abbrev pub ReservedBitsRefused : Type 0
ReservedBitsRefused = (q : Request) → sets_reserved q ≡ true → RefusedByAll q
