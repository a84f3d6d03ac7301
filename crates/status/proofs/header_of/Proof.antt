-- `status::header_of`.
use borrow.Author.Rules.{rules}
use Rattle.status.proofs.Page.{header_made}
use Rattle.status.proofs.header_of.Statement.{statement}
use Rattle.status.proofs.header_of.Tie as tie

pub header_of_spec : {M : Type 1} → statement M
header_of_spec =
    tie.close
    (tie.spec
    (λ c κs. search rules)
    (λ c κs. search rules)
    (λ c. search (header_made)))
