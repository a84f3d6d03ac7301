-- `events::bare`.
use borrow.Author.Rules.{rules}
use Rattle.events.proofs.Found.{bare_found}
use Rattle.events.proofs.bare.Statement.{statement}
use Rattle.events.proofs.bare.Tie as tie

pub bare_spec : {M : Type 1} → statement M
bare_spec =
    tie.close
    (tie.spec
    (λ c. search rules)
    (λ c κs. search rules)
    (λ c. search rules)
    (λ c κs. search rules)
    (λ c. search rules)
    (λ c κs. search rules)
    (λ c. search rules)
    (λ c κs. search rules)
    (λ c. search rules)
    (λ c κs. search rules)
    (λ c. search rules)
    (λ c κs. search rules)
    (λ c. search (bare_found))
    (λ c. search (bare_found))
    (λ c. search (bare_found))
    (λ c. search (bare_found))
    (λ c. search (bare_found))
    (λ c. search (bare_found)))
