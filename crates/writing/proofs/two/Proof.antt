-- `writing::two`.
use borrow.Author.Rules.{rules}
use Rattle.writing.proofs.Tens.{two_small, two_bytes}
use Rattle.writing.proofs.two.Statement.{statement}
use Rattle.writing.proofs.two.Tie as tie

pub two_spec : {M : Type 1} → statement M
two_spec =
    tie.close
    (tie.spec
    (λ c. search rules)
    (λ c. search rules)
    (λ c. search rules)
    (λ c. search rules)
    (λ c. (search (two_bytes), search (two_small))))
