use Rattle.writing.proofs.Puts.{whole_stored, whole_ended}
use Rattle.tally.proofs.Tally.put.Goals as goal

pub returns-clause-out_after : goal.returns-clause-out_after
returns-clause-out_after c = search (whole_stored)

pub returns-clause-value : goal.returns-clause-value
returns-clause-value c = search (whole_ended)
