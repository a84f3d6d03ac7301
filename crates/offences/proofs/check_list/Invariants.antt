-- The descriptors before the place are clean.
use Rattle.std.proofs.Common.{◌-◌}
use Rattle.offences.specs.Private.{Swept}
use Rattle.offences.proofs.check_list.Given as goal

abbrev pub invariant-loop-request : goal.invariant-loop-request
invariant-loop-request l = Swept l.o l.page l.request l.count l.next.at l.next.last.0

abbrev pub decreases-loop-request : goal.decreases-loop-request
decreases-loop-request l = l.end - l.next.at
