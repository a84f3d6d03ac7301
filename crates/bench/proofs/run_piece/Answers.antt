-- The piece goes on further behind.
use Rattle.std.proofs.Common.{rules}
use Rattle.runs.proofs.Runs.{went_further}
use Rattle.bench.proofs.run_piece.Goals as goal

pub loop-at-smaller : goal.loop-at-smaller
loop-at-smaller c = went_further _ _ _ _ _ _ _ c.go_on-went.ensures.value (search rules)
