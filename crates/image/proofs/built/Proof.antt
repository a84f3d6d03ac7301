-- `image::built`: the count is 128 at most.
use native.Mathlib.Nat.{min-le_right}
use native.Mathlib.Omega.{arith}
use borrow.Author.Rules.{rules}
use Rattle.image.proofs.Keeping.{built_anew}
use Rattle.image.proofs.built.Statement.{statement}
use Rattle.image.proofs.built.Tie as tie

pub built_spec : {M : Type 1} → statement M
built_spec =
    tie.close
    (tie.spec
    (λ c κs. search rules)
    (λ c. record { fits = omega (arith, c.bounded.ensures, min-le_right c.before.before.args.table.count 128) })
    (λ c. search (built_anew)))
