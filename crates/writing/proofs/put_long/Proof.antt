-- `writing::put_long`.
use borrow.Author.Rules.{rules}
use Rattle.writing.proofs.Tens.{puts_parts}
use Rattle.writing.proofs.put_long.Statement.{statement}
use Rattle.writing.proofs.put_long.Tie as tie

pub put_long_spec : {M : Type 1} → statement M
put_long_spec =
    tie.close
    (tie.spec
    (λ c κs. search rules)
    (λ c. search rules)
    (λ c. search rules)
    (λ c κs. search rules)
    (λ c κs. search rules)
    (λ c. search rules)
    (λ c. search (puts_parts 4)))
