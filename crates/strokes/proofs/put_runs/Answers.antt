use Rattle.std.proofs.Common.{◌*◌, refl, arith, rules}
use Rattle.strokes.proofs.Strokes.{put_run, put_rest}
use Rattle.strokes.proofs.put_runs.Goals as goal

pub loop-k-preserved : goal.loop-k-preserved
loop-k-preserved c =
    put_run c.args.buf.now c.args.at c.args.x c.args.n c.requires c.loop-k.buf (128 * c.loop-k.k) c.loop-k.invariant c.loop-k.k refl (search rules) _
    c.put_each.ensures

pub returns : goal.returns
returns c =
    put_rest c.args.buf.now c.args.at c.args.x c.args.n c.requires c.loop-k.buf (128 * c.loop-k.k) c.loop-k.invariant (omega arith) _ c.put_each-2.ensures
