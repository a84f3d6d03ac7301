-- `offer::is_shaped`: a law for each way out.
use Rattle.offer.proofs.Check.{shaped_storage, shaped-other}
use Rattle.offer.proofs.is_shaped.Statement.{statement}
use Rattle.offer.proofs.is_shaped.Tie as tie

pub is_shaped_spec : {M : Type 1} → statement M
is_shaped_spec = tie.close (tie.spec (λ c. search (shaped_storage)) (λ c. search (shaped-other)))
