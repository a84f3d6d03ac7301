-- `writing::decimal_of`. The invariant: the last m digits stand at the end of the array, and `rest` has the others.
use mathlib.Core.Path.{refl}
use native.Mathlib.Omega.{arith}
use borrow.Author.Rules.{rules}
use Rattle.writing.proofs.Spelled.{Spelled, spelled_room, spelled_next, spelled-all}
use Rattle.writing.proofs.decimal_of.Statement.{statement}
use Rattle.writing.proofs.decimal_of.Tie as tie

abbrev invariant-loop : tie.invariant-loop-rest
invariant-loop n t₀ rest₀ m₀ t rest m = Spelled n t rest m

abbrev decreases-loop : tie.decreases-loop-rest
decreases-loop n t₀ rest₀ m₀ t rest m = rest

pub decimal_of_spec : {M : Type 1} → statement M
decimal_of_spec =
    tie.close
    (tie.spec
    invariant-loop
    decreases-loop
    (λ c. (refl, refl, (omega arith, omega arith, omega arith)))
    (λ c. search rules)
    (λ c. search rules)
    (λ c. search (spelled_room))
    (λ c. omega arith)
    (λ c. let l = c.before.loop-rest in
    omega (arith, spelled_room c.before.before.args.n l.t l.rest l.m l.invariant))
    (λ c. search rules)
    (λ c. search (spelled_next))
    (λ c. search rules)
    (λ c. search rules)
    (λ c. search (spelled_room))
    (λ c. omega arith)
    (λ c. let l = c.before.loop-rest in
    omega (arith, spelled_room c.before.before.args.n l.t l.rest l.m l.invariant))
    (λ c. search (spelled-all)))
