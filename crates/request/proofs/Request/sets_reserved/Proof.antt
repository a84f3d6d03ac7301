-- `request::Request::sets_reserved`: a law for each way out.
use Rattle.request.proofs.Request.sets_reserved.Statement.{statement}
use Rattle.request.proofs.Request.sets_reserved.Tie as tie
use Rattle.request.proofs.ReservedBits.{set_upper, set_lower, set_high}

pub sets_reserved_spec : {M : Type 1} → statement M
sets_reserved_spec =
    tie.close
    (tie.spec
    (λ c. search (set_upper))
    (λ c. search (set_lower))
    (λ c. search (set_high)))
