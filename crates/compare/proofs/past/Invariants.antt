-- Past what agrees from here is past what agrees from the cursor that was given.
use Rattle.std.proofs.Common.{◌≡◌, ◌-◌}
use Rattle.compare.specs.Walk.{past}
use Rattle.compare.proofs.past.Given as goal

abbrev pub invariant-loop-frame : goal.invariant-loop-frame
invariant-loop-frame l =
    past l.older l.newer l.frame (l.frame.last.older - l.fn.from.older) l.fn.from ≡ past l.older l.newer l.frame (l.frame.last.older - l.at.older) l.at

abbrev pub decreases-loop-frame : goal.decreases-loop-frame
decreases-loop-frame l = l.frame.last.older - l.at.older
