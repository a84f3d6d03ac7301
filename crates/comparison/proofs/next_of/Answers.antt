use Rattle.comparison.proofs.Comparison.{step_accepted}
use Rattle.comparison.proofs.next_of.Goals as goal

pub returns-then-accepted : goal.returns-then-accepted
returns-then-accepted c = step_accepted _ _ _ c.requires _ _ c.if-accepted.true _ c.next_to.ensures
