use Rattle.std.proofs.Common.{◌≡◌, take, drop}
use Rattle.dump.specs.Dump.{is_zero}
use Rattle.dump.proofs.is_zero.Given as goal

-- the row is zero if what is left of it is
abbrev pub invariant-loop-k : goal.invariant-loop-k
invariant-loop-k l = is_zero (drop l.k (take 32 l.bytes)) ≡ is_zero (take 32 l.bytes)
