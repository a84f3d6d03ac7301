-- `dump::put_lines`.
use Rattle.std.proofs.Common.{refl}
use Rattle.dump.proofs.Data.{lines_puts}
use Rattle.dump.proofs.put_lines.Goals as goal

pub returns : goal.returns
returns c =
    lines_puts _ _ _ refl c.tail.ensures _ _ _ _ _ _ _ _ c.numbered-a.ensures.out_after c.numbered-a.ensures.value
    c.put_rows-b.ensures c.put_last.ensures
