use Rattle.std.proofs.Common.{◌≡◌}
use Rattle.dump.proofs.Dump.{begun}
use Rattle.dump.proofs.row.Given as goal

-- the digits of the first k bytes stand at the front
abbrev pub invariant-loop-k : goal.invariant-loop-k
invariant-loop-k l = l.line ≡ begun l.bytes l.k
