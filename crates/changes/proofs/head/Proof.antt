-- `changes::head`.
use borrow.Author.Rules.{rules}
use Rattle.changes.proofs.Changes.{head_laid}
use Rattle.changes.proofs.head.Statement.{statement}
use Rattle.changes.proofs.head.Tie as tie

pub head_spec : {M : Type 1} → statement M
head_spec =
    tie.close
    (tie.spec
    (λ c κs. search rules)
    (λ c. search rules)
    (λ c. search rules)
    (λ c. search rules)
    (λ c. search rules)
    (λ c. search rules)
    (λ c. search rules)
    (λ c. search rules)
    (λ c. search rules)
    (λ c. search (head_laid)))
