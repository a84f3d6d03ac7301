-- `moves::put`.
use borrow.Author.Rules.{rules}
use Rattle.moves.proofs.Moves.{next_stored, next_ended}
use Rattle.moves.proofs.put.Statement.{statement}
use Rattle.moves.proofs.put.Tie as tie

pub put_spec : {M : Type 1} → statement M
put_spec =
    tie.close
    (tie.spec
    (λ c κs. search rules)
    (λ c κs. search rules)
    (λ c κs. search rules)
    (λ c. search rules)
    (λ c. (search (next_stored), search (next_ended))))
