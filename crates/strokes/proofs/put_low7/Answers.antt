use Rattle.std.proofs.Common.{◌∙◌, arith}
use Rattle.words.proofs.Bytes.{low_le4}
use Rattle.strokes.proofs.Strokes.{low_four}
use Rattle.strokes.proofs.put_low7.Goals as goal

pub returns-else-n-lt4 : goal.returns-else-n-lt4
returns-else-n-lt4 c =
    low_four c.args.buf.now c.args.at c.args.x c.args.n c.requires.1 (omega arith) _ _ _ (c.to_le_bytes.ensures ∙ low_le4 _) c.put.ensures c.put_low3-else-n-lt4.ensures
