-- `lines::parts::is_named`.
use Rattle.std.proofs.Common.{rules}
use Rattle.lines.proofs.Words.{name_this, name_other}
use Rattle.lines.proofs.parts.is_named.Goals as goal

pub returns-then-eq : goal.returns-then-eq
returns-then-eq c = search (rules, name_this)

pub returns-else-eq : goal.returns-else-eq
returns-else-eq c = search (rules, name_other)
