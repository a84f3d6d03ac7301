use Rattle.std.proofs.Common.{rules}
use Rattle.compare.proofs.Places.{id_read}
use Rattle.compare.proofs.id_at.Goals as goal

pub returns-else-is_there : goal.returns-else-is_there
returns-else-is_there c = search (rules, id_read)
