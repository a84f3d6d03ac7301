-- `is_aborted`: the array that it looks up is table 12.
use Rattle.paper.proofs.Table12.{grid_right}
use Rattle.paper.proofs.is_aborted.Goals as goal

pub returns : goal.returns
returns c = rw (c.row-i.ensures, c.column-j.ensures) (grid_right c.args.command c.args.security)
