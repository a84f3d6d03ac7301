-- `compare::next_part`.
use borrow.Author.Rules.{rules}
use Rattle.compare.proofs.Steps.{next_past}
use Rattle.compare.proofs.next_part.Statement.{statement}
use Rattle.compare.proofs.next_part.Tie as tie

pub next_part_spec : {M : Type 1} → statement M
next_part_spec = tie.close (tie.spec (λ c κs. search rules) (λ c κs. search rules) (λ c. search (next_past)))
