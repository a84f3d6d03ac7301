-- `removal::judge_room`: a law for each way out.
use borrow.Author.Rules.{rules}
use Rattle.removal.proofs.Rules.{room_small, room_high, room_noted}
use Rattle.removal.proofs.judge_room.Statement.{statement}
use Rattle.removal.proofs.judge_room.Tie as tie

pub judge_room_spec : {M : Type 1} → statement M
judge_room_spec =
    tie.close
    (tie.spec
    (λ c κs. search rules)
    (λ c. search (room_small))
    (λ c. search rules)
    (λ c κs. search rules)
    (λ c. search (room_high))
    (λ c κs. search rules)
    (λ c κs. search rules)
    (λ c. search (room_noted)))
