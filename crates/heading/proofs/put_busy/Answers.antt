-- `heading::put_busy`.
use Rattle.heading.proofs.Heading.{busy_puts}
use Rattle.heading.proofs.put_busy.Goals as goal

pub returns : goal.returns
returns c = search (busy_puts)
