-- `heading::header_width`.
use native.Mathlib.Omega.{arith}
use borrow.Author.Rules.{rules}
use Rattle.text.proofs.Digits.{length_decimal}
use Rattle.heading.proofs.Heading.{width_header}
use Rattle.heading.proofs.header_width.Statement.{statement}
use Rattle.heading.proofs.header_width.Tie as tie

pub header_width_spec : {M : Type 1} → statement M
header_width_spec =
    tie.close
    (tie.spec
    (λ c. search rules)
    (λ c κs. search rules)
    (λ c. search rules)
    (λ c κs. search rules)
    (λ c. let h = c.before.before.before.before.args.h in
    omega (arith, length_decimal h.number, length_decimal h.returned))
    (λ c. search rules)
    (λ c κs. search rules)
    (λ c. search rules)
    (λ c κs. search rules)
    (λ c. let h = c.before.before.before.before.before.before.before.before.args.h in
    omega (arith, length_decimal h.limit, length_decimal h.removed))
    (λ c. let h = c.before.before.before.before.before.before.before.before.args.h in
    omega (arith, length_decimal h.number, length_decimal h.returned))
    (λ c. let h = c.before.before.before.before.before.before.before.before.args.h in
    omega (arith, length_decimal h.number, length_decimal h.returned, length_decimal h.limit, length_decimal h.removed))
    (λ c. search (width_header)))
