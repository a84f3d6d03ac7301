-- `rows::descriptor_width`.
use native.Mathlib.Omega.{arith}
use borrow.Author.Rules.{rules}
use Rattle.rows.proofs.Rows.{width_line, length_line}
use Rattle.rows.proofs.descriptor_width.Statement.{statement}
use Rattle.rows.proofs.descriptor_width.Tie as tie

pub descriptor_width_spec : {M : Type 1} → statement M
descriptor_width_spec =
    tie.close
    (tie.spec
    (λ c κs. search rules)
    (λ c. let d = c.before.args.d in
    let capacity = c.capacity_width in
    omega (arith, width_line d capacity.result capacity.ensures, length_line d))
    (λ c. search (width_line)))
