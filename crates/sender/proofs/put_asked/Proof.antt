-- `sender::put_asked`. The invariant: the descriptors of what is asked for of the first i stand behind the header.
use Prim.Native.Nat.{◌-◌}
use borrow.Author.Rules.{rules}
use borrow.Author.Tests.{not-true, not-false}
use Rattle.sender.proofs.Sending.{Walked, walk_none, walk-past, walk_next, asked_cut, asked-all}
use Rattle.sender.proofs.put_asked.Statement.{statement}
use Rattle.sender.proofs.put_asked.Tie as tie

abbrev invariant-loop : tie.invariant-loop-i
invariant-loop request part₀ ps hs n at₀ i₀ part at i = Walked ps hs request n part₀ at i part

abbrev decreases-loop : tie.decreases-loop-i
decreases-loop request part₀ ps hs n at₀ i₀ part at i = n - i

pub put_asked_spec : {M : Type 1} → statement M
put_asked_spec =
    tie.close
    (tie.spec
    invariant-loop
    decreases-loop
    (λ c κs. search rules)
    (λ c. let g = c.before.before.before.before.well_formed in
    walk_none _ _ _ _ _ (search rules) (search rules) (search rules))
    (λ c. search rules)
    (λ c. search rules)
    (λ c. search rules)
    (λ c κs. search rules)
    (λ c. search rules)
    (λ c. search rules)
    (λ c. search (walk-past, not-true))
    (λ c. search rules)
    (λ c. search rules)
    (λ c. search rules)
    (λ c. search rules)
    (λ c κs. search rules)
    (λ c κs. search rules)
    (λ c κs. search rules)
    (λ c. search rules)
    (λ c. search (asked_cut, not-false))
    (λ c. search rules)
    (λ c. search rules)
    (λ c. search rules)
    (λ c κs. search rules)
    (λ c. search rules)
    (λ c. search rules)
    (λ c. search rules)
    (λ c. let put = c.before.before.put_shown in
    let whole = c.before.before.before.before.before in
    let asks = whole.before in
    let turn = asks.before.before.before in
    let l = turn.before.loop-i in
    walk_next _ _ _ _ turn.before.before.before.before.before.before.args.part.now l.at l.i l.part l.invariant turn.loop-i-test.true _ asks.before.does_ask.ensures asks.if-not-does_ask.false whole.if-part-at.false _
    put.auto.buf put.ensures)
    (λ c. search rules)
    (λ c. search (asked-all)))
