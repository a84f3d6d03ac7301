use Rattle.std.proofs.Common.{◌∙◌}
use Rattle.words.proofs.Bytes.{low_le2}
use Rattle.writing.proofs.Tens.{bytes_puts}
use Rattle.writing.proofs.put_two.Goals as goal

pub returns : goal.returns
returns c =
    bytes_puts 2 c.args.out.now c.word.new.out _ c.args.at c.word.result c.args.n c.two.result c.two.ensures.0 (c.to_le_bytes.ensures ∙ low_le2 _) c.word.ensures.out_after
    c.word.ensures.value
