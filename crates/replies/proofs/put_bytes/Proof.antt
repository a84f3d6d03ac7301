-- `replies::put_bytes`.
use borrow.Author.Rules.{rules}
use Rattle.replies.proofs.DockReplies.{refused_bytes, refused_end, done_bytes, done_end}
use Rattle.replies.proofs.put_bytes.Statement.{statement}
use Rattle.replies.proofs.put_bytes.Tie as tie

pub put_bytes_spec : {M : Type 1} → statement M
put_bytes_spec =
    tie.close
    (tie.spec
    (λ c κs. search rules)
    (λ c. (search (refused_bytes), search (refused_end)))
    (λ c κs. search rules)
    (λ c. search rules)
    (λ c. (search (done_bytes), search (done_end))))
