use Rattle.std.proofs.Common.{◌*◌}
use Rattle.strokes.proofs.Strokes.{TimesPut}
use Rattle.strokes.proofs.put_runs.Given as goal

-- it stands there as many times as the runs so far have it
abbrev pub invariant-loop-k : goal.invariant-loop-k
invariant-loop-k l = TimesPut l.initial.buf l.at l.x l.n l.buf (128 * l.k)
