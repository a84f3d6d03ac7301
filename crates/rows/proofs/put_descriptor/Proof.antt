-- `rows::put_descriptor`.
use borrow.Author.Rules.{rules}
use borrow.Author.Tests.{not-true, not-false}
use Rattle.writing.proofs.Puts.{none_stored, none_ended, whole_stored, whole_ended}
use Rattle.rows.proofs.put_descriptor.Statement.{statement}
use Rattle.rows.proofs.put_descriptor.Tie as tie

pub put_descriptor_spec : {M : Type 1} → statement M
put_descriptor_spec =
    tie.close
    (tie.spec
    (λ c κs. search rules)
    (λ c. (search (none_stored, not-true), search (none_ended, not-true)))
    (λ c κs. search rules)
    (λ c. search rules)
    (λ c. (search (whole_stored, not-false), search (whole_ended, not-false))))
