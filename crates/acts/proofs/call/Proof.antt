-- `acts::call`.
use borrow.Author.Rules.{rules}
use Rattle.acts.proofs.Acts.{lacking_act, lacking_page, lacking_lent, having_act, having_page, having_lent}
use Rattle.acts.proofs.call.Statement.{statement}
use Rattle.acts.proofs.call.Tie as tie

pub call_spec : {M : Type 1} → statement M
call_spec =
    tie.close
    (tie.spec
    (λ c κs. search rules)
    (λ c κs. search rules)
    (λ c. (search (lacking_act), (search (lacking_page), search (lacking_lent))))
    (λ c κs. search rules)
    (λ c. search rules)
    (λ c. search rules)
    (λ c. (search (having_act), (search (having_page), search (having_lent)))))
