-- `rows::put_parts`.
use Rattle.rows.proofs.Rows.{line_puts}
use Rattle.rows.proofs.put_parts.Goals as goal

pub returns : goal.returns
returns c = search (line_puts)
