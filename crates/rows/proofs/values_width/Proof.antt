-- `rows::values_width`.
use native.Mathlib.Omega.{arith}
use borrow.Author.Rules.{rules}
use Rattle.rows.proofs.Rows.{width_values, length_values}
use Rattle.rows.proofs.values_width.Statement.{statement}
use Rattle.rows.proofs.values_width.Tie as tie

pub values_width_spec : {M : Type 1} → statement M
values_width_spec =
    tie.close
    (tie.spec
    (λ c κs. search rules)
    (λ c. let d = c.before.args.d in
    let capacity = c.capacity_width in
    omega (arith, width_values d capacity.result capacity.ensures, length_values d))
    (λ c. search (width_values)))
