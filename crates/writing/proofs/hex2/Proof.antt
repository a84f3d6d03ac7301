-- `writing::hex2`.
use borrow.Author.Rules.{rules}
use Rattle.writing.proofs.Spelled.{two_there}
use Rattle.writing.proofs.hex2.Statement.{statement}
use Rattle.writing.proofs.hex2.Tie as tie

pub hex2_spec : {M : Type 1} → statement M
hex2_spec =
    tie.close
    (tie.spec
    (λ c. search rules)
    (λ c. search rules)
    (λ c. search rules)
    (λ c. search rules)
    (λ c. search (two_there, rules)))
