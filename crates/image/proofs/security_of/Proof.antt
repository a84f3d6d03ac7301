-- `image::security_of`: in each arm the number is told.
use Rattle.image.proofs.Reading.{state_told, state_other}
use Rattle.image.proofs.security_of.Statement.{statement}
use Rattle.image.proofs.security_of.Tie as tie

pub security_of_spec : {M : Type 1} → statement M
security_of_spec =
    tie.close (tie.spec (λ c. search (state_told)) (λ c. search (state_told)) (λ c. search (state_told)) (λ c. search (state_other)))
