-- `workbench::with_element`.
use borrow.Author.Rules.{rules}
use Rattle.workbench.proofs.Changes.{no_place, placed}
use Rattle.workbench.proofs.with_element.Statement.{statement}
use Rattle.workbench.proofs.with_element.Tie as tie

pub with_element_spec : {M : Type 1} → statement M
with_element_spec =
    tie.close
    (tie.spec
    (λ c. search (no_place))
    (λ c. search rules)
    (λ c. search rules)
    (λ c. search (placed)))
