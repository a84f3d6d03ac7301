-- `entries::put_each`. The invariant: the lines before the place are put, and `at` is where they end.
use Prim.Native.Nat.{◌-◌}
use mathlib.Core.Path.{◌≡◌, refl, ◌∙◌}
use lib.ListN.{length}
use borrow.Author.Rules.{rules}
use Rattle.entries.proofs.Entries.{PutBefore, put_missing, put_none, put_there, put_all, put_on}
use Rattle.entries.proofs.put_each.Statement.{statement}
use Rattle.entries.proofs.put_each.Tie as tie

abbrev invariant-loop : tie.invariant-loop-place
invariant-loop bytes count o out₀ from end at₀ place₀ out at place = PutBefore o bytes count out₀ from place out at × (length out ≡ length out₀)

abbrev decreases-loop : tie.decreases-loop-place
decreases-loop bytes count o out₀ from end at₀ place₀ out at place = end - place

pub put_each_spec : {M : Type 1} → statement M
put_each_spec =
    tie.close
    (tie.spec
    invariant-loop
    decreases-loop
    (λ c. search rules)
    (λ c. search rules)
    (λ c. search (put_missing))
    (λ c. (search (put_none), refl))
    (λ c. search rules)
    (λ c. search rules)
    (λ c. search rules)
    (λ c. search (put_there))
    (λ c κs. search rules)
    (λ c κs. search rules)
    (λ c. search rules)
    (λ c. search rules)
    (λ c. let put = c.before.before in
    let read = put.before.before in
    let l = read.before.before.before.loop-place in (
      put_on _ _ _ _ _ _ _ _ l.invariant.0 read.before.before.loop-place-test.true _ read.read-d.ensures _ _ put.put_descriptor-at.ensures.0 put.put_descriptor-at.ensures.1,
      put.put_descriptor-at.auto.out ∙ l.invariant.1,
    ))
    (λ c. search rules)
    (λ c. search (put_all)))
