-- `writing::put_longer`.
use borrow.Author.Rules.{rules}
use Rattle.writing.proofs.Tens.{puts_parts}
use Rattle.writing.proofs.put_longer.Statement.{statement}
use Rattle.writing.proofs.put_longer.Tie as tie

pub put_longer_spec : {M : Type 1} → statement M
put_longer_spec =
    tie.close
    (tie.spec
    (λ c κs. search rules)
    (λ c. search rules)
    (λ c. search rules)
    (λ c κs. search rules)
    (λ c κs. search rules)
    (λ c. search rules)
    (λ c. search (puts_parts 4))
    (λ c κs. search rules)
    (λ c κs. search rules)
    (λ c. search rules)
    (λ c. search (puts_parts 8)))
