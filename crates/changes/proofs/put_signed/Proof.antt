-- `changes::put_signed`.
use borrow.Author.Rules.{rules}
use Rattle.changes.proofs.Changes.{signed_puts}
use Rattle.changes.proofs.put_signed.Statement.{statement}
use Rattle.changes.proofs.put_signed.Tie as tie

pub put_signed_spec : {M : Type 1} → statement M
put_signed_spec =
    tie.close
    (tie.spec
    (λ c κs. search rules)
    (λ c. search rules)
    (λ c κs. search rules)
    (λ c κs. search rules)
    (λ c. search rules)
    (λ c. search (signed_puts)))
