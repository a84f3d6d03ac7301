-- `rows::put_values`.
use Prim.Native.Nat.{◌+◌, ◌≤◌}
use native.Mathlib.Omega.{arith}
use lib.ListN.{length}
use borrow.Author.Rules.{rules}
use Rattle.rows.proofs.Rows.{room_there, part_values, part_values_end, part_values_room, apart_there, apart_long, apart_stored, apart_ended}
use Rattle.rows.proofs.put_values.Statement.{statement}
use Rattle.rows.proofs.put_values.Tie as tie

pub put_values_spec : {M : Type 1} → statement M
put_values_spec =
    tie.close
    (tie.spec
    (λ c κs. search rules)
    (λ c. let s = c.before.before.before.args in
    let room : s.at + 26 ≤ length s.out.now = search (room_there) in
    omega arith)
    (λ c. search rules)
    (λ c. search rules)
    (λ c. search (room_there))
    (λ c κs. search rules)
    (λ c. let s = c.before.before.before.before.before.before.before.args in
    let room : s.at + c.before.before.put_front.result ≤ length s.out.now = search (part_values_room) in
    omega arith)
    (λ c. search rules)
    (λ c. (search (part_values), search (part_values_end)))
    (λ c. search rules)
    (λ c κs. search rules)
    (λ c. search (apart_there))
    (λ c. search (apart_long))
    (λ c κs. search rules)
    (λ c. search rules)
    (λ c. (search (apart_stored), search (apart_ended))))
