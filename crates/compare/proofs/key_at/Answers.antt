use Rattle.std.proofs.Common.{rules, arith}
use Rattle.compare.proofs.Places.{key_none, key_there}
use Rattle.compare.proofs.key_at.Goals as goal

pub returns-then-k-count : goal.returns-then-k-count
returns-then-k-count c = (search (rules, key_there), λ low. omega arith)

pub returns-else-k-count : goal.returns-else-k-count
returns-else-k-count c = (search (rules, key_none), λ low. omega arith)
