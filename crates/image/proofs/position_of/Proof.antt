-- `image::position_of`: in each arm the number is told.
use Rattle.image.proofs.Reading.{place-told, place_other}
use Rattle.image.proofs.position_of.Statement.{statement}
use Rattle.image.proofs.position_of.Tie as tie

pub position_of_spec : {M : Type 1} → statement M
position_of_spec =
    tie.close
    (tie.spec
    (λ c. search (place-told))
    (λ c. search (place-told))
    (λ c. search (place-told))
    (λ c. search (place-told))
    (λ c. search (place-told))
    (λ c. search (place-told))
    (λ c. search (place-told))
    (λ c. search (place-told))
    (λ c. search (place_other)))
