-- `writing::hex_pair`.
use borrow.Author.Rules.{rules}
use Rattle.writing.proofs.Spelled.{pair_there}
use Rattle.writing.proofs.hex_pair.Statement.{statement}
use Rattle.writing.proofs.hex_pair.Tie as tie

pub hex_pair_spec : {M : Type 1} → statement M
hex_pair_spec =
    tie.close
    (tie.spec
    (λ c. search rules)
    (λ c. search rules)
    (λ c. search rules)
    (λ c. search rules)
    (λ c. search rules)
    (λ c. search rules)
    (λ c. search rules)
    (λ c. search rules)
    (λ c. search (pair_there, rules)))
