-- `sender::number_asked`. The invariant: the number is of what is asked for of the first i.
use Prim.Native.Nat.{◌-◌}
use borrow.Author.Rules.{rules}
use Rattle.status.proofs.Places.{count_fits}
use Rattle.sender.proofs.Sending.{Counted, counted_none, counted_low, counted_less, counted_next, counted_all}
use Rattle.sender.proofs.number_asked.Statement.{statement}
use Rattle.sender.proofs.number_asked.Tie as tie

abbrev invariant-loop : tie.invariant-loop-i
invariant-loop request ps hs n number₀ i₀ number i = Counted ps hs request n number i

abbrev decreases-loop : tie.decreases-loop-i
decreases-loop request ps hs n number₀ i₀ number i = n - i

pub number_asked_spec : {M : Type 1} → statement M
number_asked_spec =
    tie.close
    (tie.spec
    invariant-loop
    decreases-loop
    (λ c κs. search rules)
    (λ c. let g = c.before.before.before.well_formed in
    counted_none _ _ _ _ (search rules) (search rules) (search rules))
    (λ c. search rules)
    (λ c. search rules)
    (λ c. search rules)
    (λ c κs. search rules)
    (λ c. search rules)
    (λ c. record { fits = count_fits _ c.does_ask.result (search (counted_less)) })
    (λ c. search rules)
    (λ c. search rules)
    (λ c. search (counted_next))
    (λ c. (search (counted_all), search (counted_low))))
