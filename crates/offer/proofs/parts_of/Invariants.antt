-- The parts of those that the loop has passed, and blanks in the other places.
use Rattle.std.proofs.Common.{◌≡◌}
use Rattle.table.specs.Elements.{blank_part}
use Rattle.offer.specs.Elements.{part_of, blank}
use Rattle.offer.proofs.Splits.{made}
use Rattle.offer.proofs.parts_of.Given as goal

abbrev pub invariant-loop-place : goal.invariant-loop-place
invariant-loop-place l = l.parts ≡ made part_of blank_part l.elements blank l.place
