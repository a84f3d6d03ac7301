-- `writing::put_any`.
use borrow.Author.Rules.{rules}
use Rattle.writing.proofs.Tens.{puts_parts}
use Rattle.writing.proofs.put_any.Statement.{statement}
use Rattle.writing.proofs.put_any.Tie as tie

pub put_any_spec : {M : Type 1} → statement M
put_any_spec =
    tie.close
    (tie.spec
    (λ c κs. search rules)
    (λ c. search rules)
    (λ c. search rules)
    (λ c κs. search rules)
    (λ c κs. search rules)
    (λ c. search rules)
    (λ c. search (puts_parts 8)))
