-- `writing::put_one`.
use borrow.Author.Rules.{rules}
use Rattle.writing.proofs.Tens.{one_puts}
use Rattle.writing.proofs.put_one.Statement.{statement}
use Rattle.writing.proofs.put_one.Tie as tie

pub put_one_spec : {M : Type 1} → statement M
put_one_spec =
    tie.close
    (tie.spec
    (λ c. search rules)
    (λ c. search rules)
    (λ c. search rules)
    (λ c κs. search rules)
    (λ c. search rules)
    (λ c. search (one_puts)))
