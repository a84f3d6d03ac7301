use Rattle.std.proofs.Common.{rules}
use Rattle.reach.proofs.Bounds.{older_long, both_read}
use Rattle.reach.proofs.judge.Goals as goal

pub returns-then-older-gt65536 : goal.returns-then-older-gt65536
returns-then-older-gt65536 c = search (rules, older_long)

pub returns : goal.returns
returns c = search (rules, both_read)
