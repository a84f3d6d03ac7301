-- `workbench::Bench::after_making`.
use borrow.Author.Rules.{rules}
use Rattle.workbench.proofs.Bench.after_making.Statement.{statement}
use Rattle.workbench.proofs.Bench.after_making.Tie as tie

pub after_making_spec : {M : Type 1} → statement M
after_making_spec =
    tie.close
    (tie.spec
    (λ c κs. search rules)
    (λ c κs. search rules)
    (λ c. simp (c.before.no_offer.ensures, c.is_made.ensures)))
