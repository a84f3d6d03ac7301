-- `changes::handed`.
use borrow.Author.Rules.{rules}
use Rattle.changes.proofs.Changes.{handed_read}
use Rattle.changes.proofs.handed.Statement.{statement}
use Rattle.changes.proofs.handed.Tie as tie

pub handed_spec : {M : Type 1} → statement M
handed_spec =
    tie.close
    (tie.spec
    (λ c κs. search rules)
    (λ c κs. search rules)
    (λ c. search (handed_read)))
