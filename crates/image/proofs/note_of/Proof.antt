-- `image::note_of`: the flag says which.
use borrow.Author.Rules.{rules}
use Rattle.image.proofs.Reading.{note_full, note_empty}
use Rattle.image.proofs.note_of.Statement.{statement}
use Rattle.image.proofs.note_of.Tie as tie

pub note_of_spec : {M : Type 1} → statement M
note_of_spec = tie.close (tie.spec (λ c κs. search rules) (λ c. search (note_full)) (λ c. search (note_empty)))
