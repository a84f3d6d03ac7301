-- `replies::put_lent`.
use borrow.Author.Rules.{rules}
use Rattle.replies.proofs.Answers.{lent_puts}
use Rattle.replies.proofs.put_lent.Statement.{statement}
use Rattle.replies.proofs.put_lent.Tie as tie

pub put_lent_spec : {M : Type 1} → statement M
put_lent_spec =
    tie.close
    (tie.spec
    (λ c κs. search rules)
    (λ c κs. search rules)
    (λ c κs. search rules)
    (λ c κs. search rules)
    (λ c κs. search rules)
    (λ c. search rules)
    (λ c. search (lent_puts)))
