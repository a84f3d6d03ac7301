-- `replies::put`.
use borrow.Author.Rules.{rules}
use Rattle.replies.proofs.Replies.{short_stored, short_ended, long_stored, long_ended}
use Rattle.replies.proofs.put.Statement.{statement}
use Rattle.replies.proofs.put.Tie as tie

pub put_spec : {M : Type 1} → statement M
put_spec =
    tie.close
    (tie.spec
    (λ c. (search (short_stored), search (short_ended)))
    (λ c κs. search rules)
    (λ c. search rules)
    (λ c. (search (long_stored), search (long_ended))))
