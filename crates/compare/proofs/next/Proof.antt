-- `compare::next`.
use borrow.Author.Rules.{rules}
use Rattle.compare.proofs.Steps.{next_whole}
use Rattle.compare.proofs.next.Statement.{statement}
use Rattle.compare.proofs.next.Tie as tie

pub next_spec : {M : Type 1} → statement M
next_spec = tie.close (tie.spec (λ c κs. search rules) (λ c κs. search rules) (λ c. search (next_whole)))
