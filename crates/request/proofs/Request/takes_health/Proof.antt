-- `request::Request::takes_health`: a law for each way out.
use borrow.Author.Rules.{rules}
use Rattle.request.proofs.Request.takes_health.Statement.{statement}
use Rattle.request.proofs.Request.takes_health.Tie as tie
use Rattle.request.proofs.Requests.{filter_any, filter_low, filter_high}

pub takes_health_spec : {M : Type 1} → statement M
takes_health_spec =
    tie.close
    (tie.spec
    (λ c κs. search rules)
    (λ c. search (filter_any))
    (λ c. search (filter_low))
    (λ c. search (filter_high)))
