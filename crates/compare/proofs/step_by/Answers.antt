use Rattle.std.proofs.Common.{rules}
use Rattle.compare.proofs.Steps.{step_done, step_found}
use Rattle.compare.proofs.step_by.Goals as goal

pub returns-then-end-min : goal.returns-then-end-min
returns-then-end-min c = search (rules, step_done)

pub returns : goal.returns
returns c = search (rules, step_found)
