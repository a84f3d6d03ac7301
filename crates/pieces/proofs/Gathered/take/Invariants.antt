-- `pieces::Gathered::take`: what the rest of the piece adds to the line so far is what the whole adds.
use Rattle.std.proofs.Common.{◌≡◌, ◌≤◌, max, length, drop}
use Rattle.pieces.specs.Pieces.{taken_from}
use Rattle.pieces.proofs.Gathered.take.Given as goal

abbrev pub invariant-loop-at : goal.invariant-loop-at
invariant-loop-at l = (taken_from l.line (drop l.at l.piece) l.at ≡ taken_from l.fn.self (drop l.from l.piece) l.from) × (l.at ≤ max l.from (length l.piece))
