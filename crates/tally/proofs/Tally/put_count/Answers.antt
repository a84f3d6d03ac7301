use Rattle.tally.proofs.Line.{count_puts}
use Rattle.tally.proofs.Tally.put_count.Goals as goal

pub returns : goal.returns
returns c = search (count_puts)
