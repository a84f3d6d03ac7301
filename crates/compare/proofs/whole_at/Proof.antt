-- `compare::whole_at`.
use Prim.Native.Nat.{◌+◌, ◌-◌, ◌*◌}
use native.Mathlib.Omega.{arith}
use borrow.Author.Rules.{rules}
use Rattle.compare.proofs.Places.{whole_read}
use Rattle.compare.proofs.whole_at.Statement.{statement}
use Rattle.compare.proofs.whole_at.Tie as tie

pub whole_at_spec : {M : Type 1} → statement M
whole_at_spec =
    tie.close
    (tie.spec
    (λ c. search rules)
    (λ c. search rules)
    (λ c. search rules)
    (λ c. search rules)
    (λ c. search rules)
    (λ c. search rules)
    (λ c κs. search rules)
    (λ c. let page = c.before.before.before.args.page in
    let k = c.before.before.before.args.k in
    whole_read page.now k (32 + 32 * k + 32 - (32 + 32 * k)) (omega arith) c.read.result c.read.ensures))
