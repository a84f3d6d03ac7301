-- `writing::field`.
use borrow.Author.Rules.{rules}
use borrow.Author.Tests.{not-true, not-false}
use Rattle.writing.proofs.Puts.{none_stored, none_ended}
use Rattle.writing.proofs.Spelled.{field_wide, field_stored, field_ended}
use Rattle.writing.proofs.field.Statement.{statement}
use Rattle.writing.proofs.field.Tie as tie

pub field_spec : {M : Type 1} → statement M
field_spec =
    tie.close
    (tie.spec
    (λ c κs. search rules)
    (λ c κs. search rules)
    (λ c. (search (none_stored, not-true, field_wide), search (none_ended, not-true, field_wide)))
    (λ c κs. search rules)
    (λ c κs. search rules)
    (λ c. search rules)
    (λ c. (search (field_stored, not-false), search (field_ended, not-false))))
