-- `acts::make`.
use borrow.Author.Rules.{rules}
use Rattle.acts.proofs.Acts.{offer_act}
use Rattle.acts.proofs.make.Statement.{statement}
use Rattle.acts.proofs.make.Tie as tie

pub make_spec : {M : Type 1} → statement M
make_spec =
    tie.close
    (tie.spec
    (λ c κs. search rules)
    (λ c κs. search rules)
    (λ c κs. search rules)
    (λ c κs. search rules)
    (λ c. search (offer_act)))
