-- What a command leaves in the lent buffer, as `calls::command` promises it: 12h what it shows, any other every byte as it was.
use Rattle.std.specs.Prelude.{ℕ, cond, List, eqb}
use Rattle.device.specs.declared.Device.{Device}
use Rattle.paper.specs.declared.Registers.{Registers}
use Rattle.paper.specs.declared.Security.{Security}
use Rattle.request.specs.Requests.{asked}
use Rattle.status.specs.Page.{shown}

abbrev pub lent : Device → Security → Registers → List ℕ → List ℕ
lent d security r buf = cond (eqb r.code 0x12) (shown d security (asked r) buf).state buf
