-- Whatever puts the lines from the cursor on after what is put so far has put all.
use Rattle.compare.specs.Walk.{ahead}
use Rattle.comparison.proofs.Comparison.{Rest}
use Rattle.comparison.proofs.put_lines.Given as goal

abbrev pub invariant-loop-hit : goal.invariant-loop-hit
invariant-loop-hit l = Rest l.initial.out l.older l.newer l.accepted l.out l.size l.at

abbrev pub decreases-loop-hit : goal.decreases-loop-hit
decreases-loop-hit l = ahead l.older l.newer l.at
