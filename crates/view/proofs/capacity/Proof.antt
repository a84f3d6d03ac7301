-- `view::capacity`: the flag's byte says which.
use borrow.Author.Rules.{rules}
use Rattle.view.proofs.Shown.{capacity_hidden, capacity_told}
use Rattle.view.proofs.capacity.Statement.{statement}
use Rattle.view.proofs.capacity.Tie as tie

pub capacity_spec : {M : Type 1} → statement M
capacity_spec = tie.close (tie.spec (λ c κs. search rules) (λ c. search (capacity_hidden)) (λ c. search (capacity_told)))
