-- `parts::descriptor_part`.
use Prim.Native.Nat.{◌+◌, ◌-◌, ◌*◌}
use mathlib.Core.Path.{◌≡◌}
use native.Mathlib.Omega.{arith}
use borrow.Author.Rules.{rules}
use Rattle.parts.proofs.Portions.{part_none, part_short, part_there}
use Rattle.parts.proofs.descriptor_part.Statement.{statement}
use Rattle.parts.proofs.descriptor_part.Tie as tie

pub descriptor_part_spec : {M : Type 1} → statement M
descriptor_part_spec =
    tie.close
    (tie.spec
    (λ c κs. search rules)
    (λ c. search rules)
    (λ c. search (part_none))
    (λ c. search rules)
    (λ c. search rules)
    (λ c. search rules)
    (λ c. search rules)
    (λ c. search (part_short))
    (λ c. search rules)
    (λ c. search rules)
    (λ c. search rules)
    (λ c. search rules)
    (λ c. let k = c.before.before.before.before.before.before.args.k in
    let wide : 32 + 32 * k + 32 - (32 + 32 * k) ≡ 32 = omega arith in
    search (part_there, wide)))
