use Rattle.strokes.proofs.Strokes.{TimesPut}
use Rattle.strokes.proofs.put_each.Given as goal

-- it stands k times from the place on
abbrev pub invariant-loop-k : goal.invariant-loop-k
invariant-loop-k l = TimesPut l.initial.buf l.at l.x l.n l.buf l.k
