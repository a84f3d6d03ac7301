-- `offer::element_of`: the flag's byte is the bit.
use mathlib.Core.Path.{refl}
use borrow.Author.Rules.{rules}
use Rattle.offer.proofs.element_of.Statement.{statement}
use Rattle.offer.proofs.element_of.Tie as tie

pub element_of_spec : {M : Type 1} → statement M
element_of_spec = tie.close (tie.spec (λ c κs. search rules) (λ c. rw c.bit.ensures refl))
