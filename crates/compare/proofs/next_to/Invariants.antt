-- What is next from the k-th pair on is next from the cursor that was given.
use Rattle.std.proofs.Common.{◌≡◌, ◌+◌}
use Rattle.compare.specs.Walk.{cursor, next_to}
use Rattle.compare.proofs.next_to.Given as goal

abbrev pub invariant-loop-k : goal.invariant-loop-k
invariant-loop-k l = next_to l.older l.newer l.frame l.from ≡ next_to l.older l.newer l.frame (cursor (l.from.older + l.k) (l.from.newer + l.k))
