use Rattle.std.proofs.Common.{rules}
use Rattle.reach.specs.Pages.{bound_of}
use Rattle.reach.proofs.bound_of.Goals as goal

pub returns : goal.returns
unfolding bound_of
returns c = search rules
