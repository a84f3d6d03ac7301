-- `request::Request::is_refused`: a law for each way out.
use borrow.Author.Rules.{rules}
use Rattle.request.proofs.Request.is_refused.Statement.{statement}
use Rattle.request.proofs.Request.is_refused.Tie as tie
use Rattle.request.proofs.Requests.{refused_filter, refused_type, refused_pages, refused_reserved}

pub is_refused_spec : {M : Type 1} → statement M
is_refused_spec =
    tie.close
    (tie.spec
    (λ c κs. search rules)
    (λ c. search (refused_filter))
    (λ c κs. search rules)
    (λ c. search (refused_type))
    (λ c. search (refused_pages))
    (λ c κs. search rules)
    (λ c. search (refused_reserved)))
