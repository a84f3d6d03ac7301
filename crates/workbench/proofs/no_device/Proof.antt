-- `workbench::no_device`.
use borrow.Author.Rules.{rules}
use Rattle.workbench.proofs.no_device.Statement.{statement}
use Rattle.workbench.proofs.no_device.Tie as tie

pub no_device_spec : {M : Type 1} → statement M
no_device_spec =
    tie.close
    (tie.spec
    (λ c κs. search rules)
    (λ c κs. search rules)
    (λ c. simp (c.before.no_table.ensures, c.no_cells.ensures)))
