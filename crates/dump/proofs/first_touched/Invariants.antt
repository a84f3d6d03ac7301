use Rattle.std.proofs.Common.{◌≡◌, ◌≤◌, length, drop, max}
use Rattle.dump.specs.Dump.{first_touched}
use Rattle.dump.proofs.first_touched.Given as goal

-- the first from i on is the first from `from` on
abbrev pub invariant-loop-i : goal.invariant-loop-i
invariant-loop-i l = (l.i ≤ max l.from (length l.lent)) × (first_touched l.i (drop l.i l.lent) ≡ first_touched l.from (drop l.from l.lent))
