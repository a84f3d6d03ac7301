-- `writing::four`.
use mathlib.Core.Path.{refl}
use native.Mathlib.Omega.{arith}
use borrow.Author.Rules.{rules}
use Rattle.writing.proofs.Tens.{parts_bytes}
use Rattle.writing.proofs.four.Statement.{statement}
use Rattle.writing.proofs.four.Tie as tie

pub four_spec : {M : Type 1} → statement M
four_spec =
    tie.close
    (tie.spec
    (λ c κs. search rules)
    (λ c κs. search rules)
    (λ c. omega (arith, c.two-2.ensures.1))
    (λ c. search rules)
    (λ c. (parts_bytes 2 c.before.before.args.n _ _ _ c.before.two.ensures c.two-2.ensures.0 refl, omega arith)))
