use Rattle.sheet.proofs.Sheet.{refused_some}
use Rattle.sheet.proofs.Whole.{line_written, line_counts}
use Rattle.sheet.proofs.refuse.Goals as goal

pub returns-in_default-clause-out_after : goal.returns-in_default-clause-out_after
returns-in_default-clause-out_after c = search (line_written, refused_some)

pub returns-in_default-clause-prefix_len : goal.returns-in_default-clause-prefix_len
returns-in_default-clause-prefix_len c = search (line_counts, refused_some)
