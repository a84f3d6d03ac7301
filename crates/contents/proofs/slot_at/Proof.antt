-- `contents::slot_at`.
use borrow.Author.Rules.{rules}
use Rattle.contents.proofs.Contents.{at_order}
use Rattle.contents.proofs.slot_at.Statement.{statement}
use Rattle.contents.proofs.slot_at.Tie as tie

pub slot_at_spec : {M : Type 1} → statement M
slot_at_spec =
    tie.close
    (tie.spec
    (λ c. search rules)
    (λ c κs. search rules)
    (λ c. search rules)
    (λ c κs. search rules)
    (λ c. search (at_order))
    (λ c. search (at_order)))
