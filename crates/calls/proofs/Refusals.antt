-- A refusal of the front call leaves the device, and every byte of the lent buffer (specs/Promises).
use mathlib.Core.Bool.{Bool, true, false, cond}
use mathlib.Core.Path.{◌≡◌, refl, ap, ◌∙◌}
use lib.Dec.{eqb}
use lib.ListN.{length}
use borrow.Author.Tests.{eqb-true}
use Rattle.conduct.proofs.EveryCall.{refusal_leaves}
use Rattle.device.specs.Machine.{command}
use Rattle.device.specs.declared.Device.{Device}
use Rattle.paper.specs.Told.{Told}
use Rattle.request.specs.Requests.{asked}
use Rattle.status.proofs.EveryPage.{shown-alike, refusal_leaves_bytes}
use Rattle.status.specs.Page.{shown}
use Rattle.calls.specs.Promises.{RefusalLeavesBoth}

pub refusal_leaves_both : RefusalLeavesBoth
refusal_leaves_both d s r buf n = (refusal_leaves d (command s r (length buf)) n, go (eqb r.code 0x12) refl)
  where
    go : (b : Bool) → eqb r.code 0x12 ≡ b → cond b (shown d s (asked r) buf).state buf ≡ buf
    go true e = refusal_leaves_bytes d s (asked r) buf (λ z. n (ap (λ (t : Told Device). t.number) (shown-alike d s r buf (eqb-true _ _ e)).0 ∙ z))
    go false e = refl
