use Rattle.std.proofs.Common.{rules}
use Rattle.reach.proofs.Bounds.{reach_whole, reach_cut}
use Rattle.reach.proofs.reach.Goals as goal

pub returns-then-h : goal.returns-then-h
returns-then-h c = search (rules, reach_cut)

pub returns-else-h : goal.returns-else-h
returns-else-h c = search (rules, reach_whole)
