-- `writing::numbered`: the name, the number and the newline are one line.
use Rattle.writing.proofs.Spelled.{line_stored, line_ended}
use Rattle.writing.proofs.numbered.Goals as goal

pub returns-clause-out_after : goal.returns-clause-out_after
returns-clause-out_after c = search (line_stored)

pub returns-clause-value : goal.returns-clause-value
returns-clause-value c = search (line_ended)
