-- `calls::find`: the search of the offer goes by the list.
use Rattle.std.proofs.Common.{◌∙◌}
use Rattle.calls.proofs.Lists.{find_offer}
use Rattle.calls.proofs.find.Goals as goal

pub returns : goal.returns
returns c = rw c.copied.ensures at c.find_in.ensures ∙ find_offer c.args.list.now c.args.id.0
