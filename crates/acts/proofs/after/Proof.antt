-- `acts::after`.
use borrow.Author.Rules.{rules}
use Rattle.acts.proofs.Acts.{event_act}
use Rattle.acts.proofs.after.Statement.{statement}
use Rattle.acts.proofs.after.Tie as tie

pub after_spec : {M : Type 1} → statement M
after_spec =
    tie.close
    (tie.spec
    (λ c κs. search rules)
    (λ c κs. search rules)
    (λ c. search (event_act)))
