-- `calls::copied`. The invariant: the array holds the list's first records, and blanks.
use Rattle.std.proofs.Common.{◌≡◌, length, min}
use Rattle.datum.proofs.SoFar.{held}
use Rattle.offer.specs.Elements.{blank}
use Rattle.calls.proofs.copied.Given as goal

abbrev pub invariant-loop-i : goal.invariant-loop-i
invariant-loop-i l = (l.n ≡ min (length l.list) 128) × (l.es ≡ held 128 blank l.list l.i)
