-- `status::put_zeros`.
use borrow.Author.Rules.{rules}
use Rattle.status.proofs.Page.{zeros_put}
use Rattle.status.proofs.put_zeros.Statement.{statement}
use Rattle.status.proofs.put_zeros.Tie as tie

pub put_zeros_spec : {M : Type 1} → statement M
put_zeros_spec =
    tie.close
    (tie.spec
    (λ c. search rules)
    (λ c. search rules)
    (λ c. search rules)
    (λ c. search rules)
    (λ c. search rules)
    (λ c. search rules)
    (λ c. search rules)
    (λ c κs. search rules)
    (λ c. search rules)
    (λ c. search (zeros_put)))
