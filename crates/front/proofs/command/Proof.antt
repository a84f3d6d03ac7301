-- `front::command`: over as many bytes as the line says, and as there are.
use borrow.Author.Rules.{rules}
use Rattle.front.proofs.Front.{called}
use Rattle.front.proofs.command.Statement.{statement}
use Rattle.front.proofs.command.Tie as tie

pub command_spec : {M : Type 1} → statement M
command_spec =
    tie.close
    (tie.spec
    (λ c κs. search rules)
    (λ c. search rules)
    (λ c. search rules)
    (λ c. search rules)
    (λ c κs. search rules)
    (λ c. search rules)
    (λ c. let over = c.before.before.command_over.ensures in
    called _ _ _ _ _ c.before.before.before.before.min-n.ensures (search rules) _ _ over.0 over.1))
