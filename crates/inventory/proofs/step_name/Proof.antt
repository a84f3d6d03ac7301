-- `inventory::step_name`.
use borrow.Author.Rules.{rules}
use Rattle.inventory.proofs.Inventory.{step_named}
use Rattle.inventory.proofs.step_name.Statement.{statement}
use Rattle.inventory.proofs.step_name.Tie as tie

pub step_name_spec : {M : Type 1} → statement M
step_name_spec =
    tie.close
    (tie.spec
    (λ c. search rules)
    (λ c. search rules)
    (λ c. search rules)
    (λ c. search rules)
    (λ c. search rules)
    (λ c. search rules)
    (λ c. search rules)
    (λ c. search rules)
    (λ c. search rules)
    (λ c. search (step_named))
    (λ c. search (step_named))
    (λ c. search (step_named))
    (λ c. search (step_named))
    (λ c. search (step_named))
    (λ c. search (step_named))
    (λ c. search (step_named))
    (λ c. search (step_named))
    (λ c. search (step_named)))
