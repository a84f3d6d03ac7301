-- `query::Query::for_pages`: a start has 32 bits.
use borrow.Author.Rules.{rules}
use Rattle.query.proofs.Queries.{start_whole}
use Rattle.query.proofs.Query.for_pages.Statement.{statement}
use Rattle.query.proofs.Query.for_pages.Tie as tie

pub for_pages_spec : {M : Type 1} → statement M
for_pages_spec =
    tie.close
    (tie.spec
    (λ c. search rules)
    (λ c. search rules)
    (λ c. search rules)
    (λ c. search rules)
    (λ c. search rules)
    (λ c. search rules)
    (λ c. search (start_whole)))
