-- `Image::at_position`.
use mathlib.Core.Path.{refl}
use borrow.Author.Rules.{rules}
use Rattle.image.proofs.Image.at_position.Statement.{statement}
use Rattle.image.proofs.Image.at_position.Tie as tie

pub at_position_spec : {M : Type 1} → statement M
at_position_spec = tie.close (tie.spec (λ c κs. search rules) (λ c. rw c.place_for.ensures refl))
