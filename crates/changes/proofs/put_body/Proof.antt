-- `changes::put_body`.
use borrow.Author.Rules.{rules}
use Rattle.changes.proofs.Changes.{said_older, said_newer, said-changed}
use Rattle.changes.proofs.put_body.Statement.{statement}
use Rattle.changes.proofs.put_body.Tie as tie

pub put_body_spec : {M : Type 1} → statement M
put_body_spec =
    tie.close
    (tie.spec
    (λ c κs. search rules)
    (λ c κs. search rules)
    (λ c κs. search rules)
    (λ c. search rules)
    (λ c. search rules)
    (λ c. search rules)
    (λ c κs. search rules)
    (λ c. search rules)
    (λ c. search (said_older))
    (λ c. search rules)
    (λ c. search (said_newer))
    (λ c. search rules)
    (λ c. search (said-changed)))
