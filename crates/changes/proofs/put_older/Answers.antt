-- `changes::put_older`.
use Rattle.changes.proofs.Changes.{older_puts}
use Rattle.changes.proofs.put_older.Goals as goal

pub returns : goal.returns
returns c = search (older_puts)
