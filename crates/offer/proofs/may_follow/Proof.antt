-- `offer::may_follow`: a law for each way out; the blocks so far and this element's are compared without adding them.
use borrow.Author.Rules.{rules}
use borrow.Author.Tests.{not-true, not-false}
use Rattle.offer.proofs.Check.{follow_order, follow_shaped, follow_healthy, follow_blocks}
use Rattle.offer.proofs.may_follow.Statement.{statement}
use Rattle.offer.proofs.may_follow.Tie as tie

pub may_follow_spec : {M : Type 1} → statement M
may_follow_spec =
    tie.close
    (tie.spec
    (λ c. search (follow_order))
    (λ c κs. search rules)
    (λ c. search (follow_shaped, not-true))
    (λ c κs. search rules)
    (λ c. search (follow_healthy, not-true, not-false))
    (λ c. search rules)
    (λ c. search (follow_blocks, not-false)))
