-- `image::place_for`: a law for each way out.
use borrow.Author.Rules.{rules}
use Rattle.image.proofs.Keeping.{place_same, place_next}
use Rattle.image.proofs.place_for.Statement.{statement}
use Rattle.image.proofs.place_for.Tie as tie

pub place_for_spec : {M : Type 1} → statement M
place_for_spec =
    tie.close
    (tie.spec
    (λ c κs. search rules)
    (λ c κs. search rules)
    (λ c κs. search rules)
    (λ c. search (place_same))
    (λ c. search (place_next)))
