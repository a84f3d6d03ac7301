-- `heading::put_limits`.
use Rattle.heading.proofs.Heading.{limits_puts}
use Rattle.heading.proofs.put_limits.Goals as goal

pub returns : goal.returns
returns c = search (limits_puts)
