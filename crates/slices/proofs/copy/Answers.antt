use Rattle.std.proofs.Common.{arith, add-one}
use Rattle.std.proofs.Math.Seq.{paste-suc}
use Rattle.slices.proofs.copy.Goals as goal

pub loop-k-preserved : goal.loop-k-preserved
loop-k-preserved c = grind (arith, add-one, paste-suc)
