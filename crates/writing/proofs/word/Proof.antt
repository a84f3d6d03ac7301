-- `writing::word`.
use Prim.Native.Nat.{◌+◌, ◌≤◌}
use native.Mathlib.Omega.{arith}
use lib.ListN.{length}
use borrow.Author.Rules.{rules}
use borrow.Author.Tests.{not-true, not-false}
use Rattle.slices.proofs.Lists.{room_there, stored_no, ended_yes, ended_no}
use Rattle.writing.proofs.word.Statement.{statement}
use Rattle.writing.proofs.word.Tie as tie

pub word_spec : {M : Type 1} → statement M
word_spec =
    tie.close
    (tie.spec
    (λ c κs. search rules)
    (λ c. (search (stored_no, not-true), search (ended_no, not-true)))
    (λ c κs. search rules)
    (λ c. let s = c.before.before.before.before.before.before.before.before.args in
    let room : s.at + length s.s.now ≤ length s.out.now = search (room_there, not-false) in
    omega arith)
    (λ c. search rules)
    (λ c. (search rules, search (ended_yes, not-false))))
