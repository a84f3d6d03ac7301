-- `workbench::no_offer`.
use borrow.Author.Rules.{rules}
use Rattle.workbench.proofs.no_offer.Statement.{statement}
use Rattle.workbench.proofs.no_offer.Tie as tie

pub no_offer_spec : {M : Type 1} → statement M
no_offer_spec =
    tie.close
    (tie.spec
    (λ c κs. search rules)
    (λ c. simp c.blank-blank.ensures))
