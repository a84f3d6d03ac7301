-- `rows::capacity_width`.
use borrow.Author.Rules.{rules}
use Rattle.rows.proofs.Rows.{dash_wide, number_wide}
use Rattle.rows.proofs.capacity_width.Statement.{statement}
use Rattle.rows.proofs.capacity_width.Tie as tie

pub capacity_width_spec : {M : Type 1} → statement M
capacity_width_spec =
    tie.close
    (tie.spec
    (λ c κs. search rules)
    (λ c. search (dash_wide))
    (λ c κs. search rules)
    (λ c. search (number_wide)))
