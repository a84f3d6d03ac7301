-- The healths of those that the loop has passed, and zeros in the other places.
use Rattle.std.proofs.Common.{◌≡◌}
use Rattle.offer.specs.Elements.{health_of, blank}
use Rattle.offer.proofs.Splits.{made}
use Rattle.offer.proofs.healths_of.Given as goal

abbrev pub invariant-loop-place : goal.invariant-loop-place
invariant-loop-place l = l.healths ≡ made health_of 0 l.elements blank l.place
