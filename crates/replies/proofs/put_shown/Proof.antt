-- `replies::put_shown`.
use borrow.Author.Rules.{rules}
use Rattle.replies.proofs.DockReplies.{at_shown, at_shown_end}
use Rattle.replies.proofs.put_shown.Statement.{statement}
use Rattle.replies.proofs.put_shown.Tie as tie

pub put_shown_spec : {M : Type 1} → statement M
put_shown_spec =
    tie.close
    (tie.spec
    (λ c. search rules)
    (λ c κs. search rules)
    (λ c. search rules)
    (λ c κs. search rules)
    (λ c. search rules)
    (λ c κs. search rules)
    (λ c. search rules)
    (λ c. (search (at_shown), search (at_shown_end)))
    (λ c. search rules)
    (λ c. (search (at_shown), search (at_shown_end)))
    (λ c. search rules)
    (λ c. (search (at_shown), search (at_shown_end))))
