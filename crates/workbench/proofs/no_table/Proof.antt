-- `workbench::no_table`.
use borrow.Author.Rules.{rules}
use Rattle.workbench.proofs.no_table.Statement.{statement}
use Rattle.workbench.proofs.no_table.Tie as tie

pub no_table_spec : {M : Type 1} → statement M
no_table_spec =
    tie.close
    (tie.spec
    (λ c κs. search rules)
    (λ c. simp c.blank_part-blank.ensures))
