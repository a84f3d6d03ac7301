use Rattle.std.proofs.Common.{rules}
use Rattle.dump.proofs.Dump.{row_next, row-all}
use Rattle.dump.proofs.row.Goals as goal

pub loop-k-preserved : goal.loop-k-preserved
loop-k-preserved c = row_next c.args.bytes.now c.requires c.loop-k.k _ _ _ (search rules) c.pair-digits.ensures c.put.ensures c.loop-k.invariant

pub returns : goal.returns
returns c = row-all c.args.bytes.now c.requires c.loop-k.k _ (search rules) (search rules) c.loop-k.invariant
