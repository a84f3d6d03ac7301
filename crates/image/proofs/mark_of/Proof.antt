-- `image::mark_of`: the flag says which.
use borrow.Author.Rules.{rules}
use Rattle.image.proofs.Reading.{mark_set, mark_clear}
use Rattle.image.proofs.mark_of.Statement.{statement}
use Rattle.image.proofs.mark_of.Tie as tie

pub mark_of_spec : {M : Type 1} → statement M
mark_of_spec = tie.close (tie.spec (λ c κs. search rules) (λ c. search (mark_set)) (λ c. search (mark_clear)))
