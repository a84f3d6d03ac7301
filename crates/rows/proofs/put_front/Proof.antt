-- `rows::put_front`.
use Prim.Native.Nat.{◌+◌, ◌≤◌}
use native.Mathlib.Omega.{arith}
use borrow.Author.Rules.{rules}
use Rattle.rows.proofs.Rows.{front-stored, front_wide, front_few}
use Rattle.rows.proofs.put_front.Statement.{statement}
use Rattle.rows.proofs.put_front.Tie as tie

pub put_front_spec : {M : Type 1} → statement M
put_front_spec =
    tie.close
    (tie.spec
    (λ c κs. search rules)
    (λ c. search rules)
    (λ c. search rules)
    (λ c. search rules)
    (λ c. search rules)
    (λ c κs. search rules)
    (λ c. search rules)
    (λ c. search rules)
    (λ c. search rules)
    (λ c κs. search rules)
    (λ c. let few : 6 + c.before.before.put_capacity.result ≤ 26 = search (front_few) in omega arith)
    (λ c. search rules)
    (λ c. (search (front-stored), search (front_wide))))
