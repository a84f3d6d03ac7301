use Rattle.tally.proofs.Line.{none_puts}
use Rattle.tally.proofs.Tally.put_line.Goals as goal

pub returns : goal.returns
returns c = search (none_puts)
