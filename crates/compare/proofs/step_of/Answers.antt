use Rattle.std.proofs.Common.{rules}
use Rattle.compare.proofs.Steps.{same_done, same-found}
use Rattle.compare.proofs.step_of.Goals as goal

pub returns-then-end-a : goal.returns-then-end-a
returns-then-end-a c = search (rules, same_done)

pub returns : goal.returns
returns c = search (rules, same-found)
