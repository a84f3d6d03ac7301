-- `offer::is_sized`: a law for each way out.
use Rattle.offer.proofs.Check.{sized-empty, sized_over, sized_limit}
use Rattle.offer.proofs.is_sized.Statement.{statement}
use Rattle.offer.proofs.is_sized.Tie as tie

pub is_sized_spec : {M : Type 1} → statement M
is_sized_spec =
    tie.close
    (tie.spec
    (λ c. search (sized-empty))
    (λ c. search (sized_over))
    (λ c. search (sized_limit)))
