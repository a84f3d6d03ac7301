-- `replies::put_docked`.
use borrow.Author.Rules.{rules}
use Rattle.replies.proofs.DockReplies.{docked_puts}
use Rattle.replies.proofs.put_docked.Statement.{statement}
use Rattle.replies.proofs.put_docked.Tie as tie

pub put_docked_spec : {M : Type 1} → statement M
put_docked_spec =
    tie.close
    (tie.spec
    (λ c κs. search rules)
    (λ c κs. search rules)
    (λ c κs. search rules)
    (λ c κs. search rules)
    (λ c κs. search rules)
    (λ c κs. search rules)
    (λ c. search rules)
    (λ c. search (docked_puts)))
