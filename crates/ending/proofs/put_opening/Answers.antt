use Rattle.std.proofs.Common.{rules}
use Rattle.ending.proofs.Ending.{none_puts}
use Rattle.ending.proofs.put_opening.Goals as goal

pub returns-in-Ok-None : goal.returns-in-Ok-None
returns-in-Ok-None c = search (rules, none_puts)
