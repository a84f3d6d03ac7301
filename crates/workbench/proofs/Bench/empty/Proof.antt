-- `workbench::Bench::empty`.
use borrow.Author.Rules.{rules}
use Rattle.workbench.proofs.Bench.empty.Statement.{statement}
use Rattle.workbench.proofs.Bench.empty.Tie as tie

pub empty_spec : {M : Type 1} → statement M
empty_spec =
    tie.close
    (tie.spec
    (λ c κs. search rules)
    (λ c κs. search rules)
    (λ c. simp (c.before.no_offer.ensures, c.no_device.ensures)))
