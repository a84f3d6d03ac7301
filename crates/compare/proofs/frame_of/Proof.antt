-- `compare::frame_of`.
use borrow.Author.Rules.{rules}
use Rattle.compare.proofs.Places.{frame_read}
use Rattle.compare.proofs.frame_of.Statement.{statement}
use Rattle.compare.proofs.frame_of.Tie as tie

pub frame_of_spec : {M : Type 1} → statement M
frame_of_spec =
    tie.close
    (tie.spec
    (λ c κs. search rules)
    (λ c κs. search rules)
    (λ c κs. search rules)
    (λ c. search (frame_read)))
