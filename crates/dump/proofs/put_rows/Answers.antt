use Rattle.dump.proofs.Dump.{rows_none, rows_next}
use Rattle.dump.proofs.put_rows.Goals as goal

pub loop-k-init : goal.loop-k-init
loop-k-init c = rows_none c.args.page.now c.args.out.now c.args.at

pub loop-k-preserved : goal.loop-k-preserved
loop-k-preserved c = search (rows_next)
