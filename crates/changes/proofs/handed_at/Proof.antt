-- `changes::handed_at`.
use borrow.Author.Rules.{rules}
use Rattle.changes.proofs.Changes.{handed_there}
use Rattle.changes.proofs.handed_at.Statement.{statement}
use Rattle.changes.proofs.handed_at.Tie as tie

pub handed_at_spec : {M : Type 1} → statement M
handed_at_spec =
    tie.close
    (tie.spec
    (λ c κs. search rules)
    (λ c κs. search rules)
    (λ c. search (handed_there)))
