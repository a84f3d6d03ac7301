-- `request::Request::takes_id`: two numbers of 32 bits.
use borrow.Author.Rules.{rules}
use Rattle.request.proofs.Request.takes_id.Statement.{statement}
use Rattle.request.proofs.Request.takes_id.Tie as tie

pub takes_id_spec : {M : Type 1} → statement M
takes_id_spec =
    tie.close
    (tie.spec
    (λ c κs. search rules)
    (λ c. cc))
