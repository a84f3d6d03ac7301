-- `writing::hex8`.
use borrow.Author.Rules.{rules}
use Rattle.writing.proofs.Spelled.{eight_there}
use Rattle.writing.proofs.hex8.Statement.{statement}
use Rattle.writing.proofs.hex8.Tie as tie

pub hex8_spec : {M : Type 1} → statement M
hex8_spec =
    tie.close
    (tie.spec
    (λ c. search rules)
    (λ c. search rules)
    (λ c. search rules)
    (λ c. search rules)
    (λ c. search rules)
    (λ c. search rules)
    (λ c. search rules)
    (λ c. search rules)
    (λ c. search rules)
    (λ c. search rules)
    (λ c. search rules)
    (λ c. search rules)
    (λ c. search rules)
    (λ c. search rules)
    (λ c. search rules)
    (λ c. search rules)
    (λ c. search rules)
    (λ c. search rules)
    (λ c. search rules)
    (λ c. search rules)
    (λ c. search (eight_there)))
