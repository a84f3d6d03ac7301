-- `workbench::Bench::offer`.
use borrow.Author.Rules.{rules}
use Rattle.workbench.proofs.Bench.offer.Statement.{statement}
use Rattle.workbench.proofs.Bench.offer.Tie as tie

pub offer_spec : {M : Type 1} → statement M
offer_spec =
    tie.close
    (tie.spec
    (λ c κs. search rules)
    (λ c. simp c.lengthened-longer.ensures))
