-- `dump::put_last`.
use Rattle.dump.proofs.Data.{last_none, last_puts}
use Rattle.dump.proofs.put_last.Goals as goal

pub returns-then-bytes-eq0 : goal.returns-then-bytes-eq0
returns-then-bytes-eq0 c = search (last_none)

pub returns : goal.returns
returns c = search (last_puts)
