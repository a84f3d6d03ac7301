use Rattle.std.proofs.Common.{◌≡◌}
use Rattle.std.proofs.Math.Seq.{paste}
use Rattle.slices.proofs.copy.Given as goal

-- the bytes so far stand at their place
abbrev pub invariant-loop-k : goal.invariant-loop-k
invariant-loop-k l = l.buf ≡ paste l.initial.buf l.at l.b l.k
