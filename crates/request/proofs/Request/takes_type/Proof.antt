-- `request::Request::takes_type`: a law for each way out.
use borrow.Author.Rules.{rules}
use Rattle.request.proofs.Request.takes_type.Statement.{statement}
use Rattle.request.proofs.Request.takes_type.Tie as tie
use Rattle.request.proofs.Requests.{type_storage, type_any}

pub takes_type_spec : {M : Type 1} → statement M
takes_type_spec =
    tie.close
    (tie.spec
    (λ c κs. search rules)
    (λ c. search (type_storage))
    (λ c. search (type_any)))
