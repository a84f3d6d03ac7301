use Rattle.std.proofs.Common.{rules}
use Rattle.compare.proofs.Steps.{step_by_lem}
use Rattle.compare.proofs.step_at.Goals as goal

pub returns : goal.returns
returns c = search (rules, step_by_lem)
