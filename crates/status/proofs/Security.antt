-- No code but 7Ch looks at the security state: 12h's row of 000, table 12 is the same in every column.
use mathlib.Core.Bool.{false}
use mathlib.Core.Path.{◌≡◌, refl}
use borrow.Author.Tests.{ne_eqb}
use Rattle.paper.specs.Table12.{aborts}
use Rattle.paper.specs.declared.Command.TheVariants.{Status}
use Rattle.paper.specs.declared.Security.TheVariants.{Locked, Unlocked, Frozen}
use Rattle.paper.specs.declared.Security.{Security}
use Rattle.status.specs.Promises.{SecurityUnseen}

status_runs : (s : Security) → aborts Status s ≡ false
status_runs Locked = refl
status_runs Unlocked = refl
status_runs Frozen = refl

pub security_unseen : SecurityUnseen
security_unseen d s t r buf n = (rw (ne_eqb r.code 0x7C n, status_runs s, status_runs t), rw (status_runs s, status_runs t))
