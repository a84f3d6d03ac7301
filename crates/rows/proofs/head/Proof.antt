-- `rows::head`.
use borrow.Author.Rules.{rules}
use Rattle.rows.proofs.Rows.{head_laid}
use Rattle.rows.proofs.head.Statement.{statement}
use Rattle.rows.proofs.head.Tie as tie

pub head_spec : {M : Type 1} → statement M
head_spec =
    tie.close
    (tie.spec
    (λ c κs. search rules)
    (λ c. search rules)
    (λ c. search rules)
    (λ c. search rules)
    (λ c. search rules)
    (λ c. search rules)
    (λ c. search rules)
    (λ c. search rules)
    (λ c. search rules)
    (λ c. search (head_laid)))
