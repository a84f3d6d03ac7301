use Rattle.std.proofs.Common.{◌∙◌, arith}
use Rattle.words.proofs.Bytes.{low_le2}
use Rattle.strokes.proofs.Strokes.{low_two}
use Rattle.strokes.proofs.put_low3.Goals as goal

pub returns-else-n-lt2 : goal.returns-else-n-lt2
returns-else-n-lt2 c =
    low_two c.args.buf.now c.args.at c.args.x c.args.n c.requires.1 (omega arith) _ _ _ (c.to_le_bytes.ensures ∙ low_le2 _) c.put.ensures c.put_low1-else-n-lt2.ensures
