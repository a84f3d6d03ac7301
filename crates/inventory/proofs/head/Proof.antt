-- `inventory::head`.
use borrow.Author.Rules.{rules}
use Rattle.inventory.proofs.Inventory.{head_laid}
use Rattle.inventory.proofs.head.Statement.{statement}
use Rattle.inventory.proofs.head.Tie as tie

pub head_spec : {M : Type 1} → statement M
head_spec =
    tie.close
    (tie.spec
    (λ c κs. search rules)
    (λ c κs. search rules)
    (λ c κs. search rules)
    (λ c. search rules)
    (λ c. search rules)
    (λ c. search rules)
    (λ c. search rules)
    (λ c. search rules)
    (λ c. search rules)
    (λ c. search rules)
    (λ c. search rules)
    (λ c. search rules)
    (λ c. search rules)
    (λ c. search rules)
    (λ c. search rules)
    (λ c. search (head_laid)))
