-- `workbench::lengthened`.
use borrow.Author.Rules.{rules}
use Rattle.workbench.proofs.lengthened.Statement.{statement}
use Rattle.workbench.proofs.lengthened.Tie as tie

pub lengthened_spec : {M : Type 1} → statement M
lengthened_spec =
    tie.close
    (tie.spec
    (λ c κs. search rules)
    (λ c κs. search rules)
    (λ c. search rules)
    (λ c. simp (c.before.with_element.ensures, c.bounded.ensures)))
