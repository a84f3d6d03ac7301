use Rattle.std.proofs.Common.{◌∙◌}
use Rattle.words.proofs.Bytes.{low_le8}
use Rattle.writing.proofs.Tens.{bytes_puts}
use Rattle.writing.proofs.put_eight.Goals as goal

pub returns : goal.returns
returns c =
    bytes_puts 8 c.args.out.now c.word.new.out _ c.args.at c.word.result c.args.n c.eight.result c.eight.ensures (c.to_le_bytes.ensures ∙ low_le8 _) c.word.ensures.out_after
    c.word.ensures.value
