-- `front::command_over`.
use borrow.Author.Rules.{rules}
use Rattle.front.proofs.Front.{over_left, over_lent}
use Rattle.front.proofs.command_over.Statement.{statement}
use Rattle.front.proofs.command_over.Tie as tie

pub command_over_spec : {M : Type 1} → statement M
command_over_spec =
    tie.close
    (tie.spec
    (λ c κs. search rules)
    (λ c κs. search rules)
    (λ c κs. search rules)
    (λ c κs. search rules)
    (λ c. search rules)
    (λ c. (search (over_left), search (over_lent))))
