-- `dump::put_touched`.
use Rattle.dump.proofs.Dump.{untouched_stored, untouched_ended, touched_stored, touched_ended}
use Rattle.dump.proofs.put_touched.Goals as goal

pub returns-then-lent-place-clause-out_after : goal.returns-then-lent-place-clause-out_after
returns-then-lent-place-clause-out_after c = search (untouched_stored)

pub returns-then-lent-place-clause-value : goal.returns-then-lent-place-clause-value
returns-then-lent-place-clause-value c = search (untouched_ended)

pub returns-clause-out_after : goal.returns-clause-out_after
returns-clause-out_after c = search (touched_stored)

pub returns-clause-value : goal.returns-clause-value
returns-clause-value c = search (touched_ended)
