-- `acts::poke_reply`.
use Rattle.acts.proofs.Acts.{poke_outside, poke_inside}
use Rattle.acts.proofs.poke_reply.Statement.{statement}
use Rattle.acts.proofs.poke_reply.Tie as tie

pub poke_reply_spec : {M : Type 1} → statement M
poke_reply_spec =
    tie.close
    (tie.spec
    (λ c. search (poke_outside))
    (λ c. search (poke_inside)))
