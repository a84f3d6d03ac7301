-- `calls::check`: the check of the offer goes by the list.
use Rattle.std.proofs.Common.{◌∙◌}
use Rattle.calls.proofs.Lists.{check_offer}
use Rattle.calls.proofs.check.Goals as goal

pub returns : goal.returns
returns c = rw c.copied.ensures at c.check_in.ensures ∙ check_offer c.args.list.now c.args.limit
