-- The descriptors before the place are clean. Each of a pair takes it a descriptor further.
use Rattle.std.proofs.Common.{◌-◌, ◌≤◌}
use Rattle.offences.specs.Private.{Swept}
use Rattle.offences.proofs.past_plain.Given as goal

abbrev pub invariant-loop-at : goal.invariant-loop-at
invariant-loop-at l = (l.fn.from.at ≤ l.at) × Swept l.o l.page l.request l.count l.at l.last.0

abbrev pub decreases-loop-at : goal.decreases-loop-at
decreases-loop-at l = l.last_at - l.at
