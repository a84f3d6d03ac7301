-- `offences::whole_at`.
use Rattle.offences.proofs.Checks.{whole_read}
use Rattle.offences.proofs.whole_at.Goals as goal

pub returns : goal.returns
returns c = whole_read c.args.o c.args.page.now c.args.at c.read.result c.read.ensures
