-- `acts::page_reply`.
use borrow.Author.Rules.{rules}
use Rattle.acts.proofs.Acts.{at_call}
use Rattle.acts.proofs.page_reply.Statement.{statement}
use Rattle.acts.proofs.page_reply.Tie as tie

pub page_reply_spec : {M : Type 1} → statement M
page_reply_spec =
    tie.close
    (tie.spec
    (λ c. search rules)
    (λ c. search rules)
    (λ c κs. search rules)
    (λ c. search rules)
    (λ c. search rules)
    (λ c. search rules)
    (λ c. search (at_call))
    (λ c. search (at_call))
    (λ c. search (at_call))
    (λ c. search (at_call))
    (λ c. search (at_call)))
