-- `convert::put_turned`: the header, and the list behind it.
use Rattle.std.proofs.Common.{rules}
use Rattle.convert.proofs.Turned.{both_put}
use Rattle.convert.proofs.put_turned.Goals as goal

pub returns : goal.returns
returns c = search (rules, both_put)
