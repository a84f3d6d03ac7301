-- `dump::put_zeros`.
use Rattle.dump.proofs.Dump.{zeros_none, zeros_puts}
use Rattle.dump.proofs.put_zeros.Goals as goal

pub returns-then-n-eq0 : goal.returns-then-n-eq0
returns-then-n-eq0 c = search (zeros_none)

pub returns : goal.returns
returns c = search (zeros_puts)
