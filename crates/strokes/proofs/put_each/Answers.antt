use Rattle.std.proofs.Common.{◌+◌, ◌-◌, ◌*◌, ◌∙◌, arith, rules}
use Rattle.words.proofs.Bytes.{low_le4}
use Rattle.strokes.proofs.Strokes.{put_one}
use Rattle.strokes.proofs.put_each.Goals as goal

pub loop-k-preserved : goal.loop-k-preserved
loop-k-preserved c =
    put_one c.args.buf.now c.args.at c.args.x c.args.n c.requires c.loop-k.buf c.loop-k.k c.loop-k.invariant (search rules)
    (c.args.at + 4 * c.loop-k.k + 4 - (c.args.at + 4 * c.loop-k.k)) (omega arith) _ _ (c.to_le_bytes.ensures ∙ low_le4 _) c.put.ensures
