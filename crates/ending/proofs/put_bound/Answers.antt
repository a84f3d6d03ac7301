-- `ending::put_bound`.
use Rattle.ending.proofs.Ending.{bound_puts}
use Rattle.ending.proofs.put_bound.Goals as goal

pub returns : goal.returns
returns c = search (bound_puts)
