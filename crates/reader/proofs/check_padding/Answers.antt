-- `reader::check_padding`: a byte that is set, and one that is clear.
use Rattle.std.proofs.Common.{rules}
use Rattle.reader.proofs.Padding.{padding_found, padding_clear}
use Rattle.reader.proofs.check_padding.Goals as goal

pub returns-then-byte-ne0 : goal.returns-then-byte-ne0
returns-then-byte-ne0 c = search (rules, padding_found)

pub loop-i-preserved : goal.loop-i-preserved
loop-i-preserved c = search (rules, padding_clear)
