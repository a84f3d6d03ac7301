-- `query::Query::is_refused`: a law for each way out.
use Rattle.query.proofs.Queries.{due_filter, due_report}
use Rattle.query.proofs.Query.is_refused.Statement.{statement}
use Rattle.query.proofs.Query.is_refused.Tie as tie

pub is_refused_spec : {M : Type 1} → statement M
is_refused_spec =
    tie.close
    (tie.spec
    (λ c. search (due_filter))
    (λ c. search (due_report)))
