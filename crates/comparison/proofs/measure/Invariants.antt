-- The size so far, and the length of the lines that are left, are the length of all.
use Rattle.std.proofs.Common.{◌≡◌, ◌+◌, true, length}
use Rattle.compare.specs.Walk.{first, ahead}
use Rattle.comparison.specs.Private.{lines_from}
use Rattle.comparison.proofs.measure.Given as goal

abbrev pub invariant-loop-hit : goal.invariant-loop-hit
invariant-loop-hit l = l.size + length (lines_from true l.older l.newer l.at) ≡ length (lines_from l.fn.accepted l.older l.newer first)

abbrev pub decreases-loop-hit : goal.decreases-loop-hit
decreases-loop-hit l = ahead l.older l.newer l.at
