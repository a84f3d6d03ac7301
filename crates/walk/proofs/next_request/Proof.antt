-- `walk::next_request`.
use borrow.Author.Rules.{rules}
use Rattle.walk.proofs.next_request.Statement.{statement}
use Rattle.walk.proofs.next_request.Tie as tie

pub next_request_spec : {M : Type 1} → statement M
next_request_spec =
    tie.close
    (tie.spec
    (λ c. search rules)
    (λ c. search rules))
