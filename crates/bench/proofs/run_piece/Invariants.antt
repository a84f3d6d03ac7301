-- The piece goes on further behind.
use Rattle.std.proofs.Common.{length, ◌-◌}
use Rattle.bench.proofs.run_piece.Given as goal

abbrev pub decreases-loop-at : goal.decreases-loop-at
decreases-loop-at l = length l.piece - l.at
