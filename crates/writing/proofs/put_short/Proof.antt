-- `writing::put_short`.
use borrow.Author.Rules.{rules}
use Rattle.writing.proofs.Tens.{puts_digit, puts_two, puts_three, puts_four}
use Rattle.writing.proofs.put_short.Statement.{statement}
use Rattle.writing.proofs.put_short.Tie as tie

pub put_short_spec : {M : Type 1} → statement M
put_short_spec =
    tie.close
    (tie.spec
    (λ c κs. search rules)
    (λ c. search rules)
    (λ c. search (puts_digit))
    (λ c κs. search rules)
    (λ c. search rules)
    (λ c. search (puts_two))
    (λ c κs. search rules)
    (λ c κs. search rules)
    (λ c. search rules)
    (λ c. search (puts_three))
    (λ c κs. search rules)
    (λ c. search rules)
    (λ c. search (puts_four)))
