-- `heading::put_counts`.
use Rattle.heading.proofs.Heading.{counts_puts}
use Rattle.heading.proofs.put_counts.Goals as goal

pub returns : goal.returns
returns c = search (counts_puts)
