use Rattle.std.proofs.Common.{rules}
use Rattle.walk.proofs.Moves.{next_refused, next_whole, next_cut}
use Rattle.walk.proofs.next.Goals as goal

pub returns-in_err-read : goal.returns-in_err-read
returns-in_err-read c =
    let refused = next_refused _ _ _ c.read.ensures _ c.in_err-read.was in
    search (rules, refused)

pub returns-in_default : goal.returns-in_default
returns-in_default c = next_whole _ _ _ c.read.ensures _ c.in_ok-read.was _ c.reach.ensures c.in_default.is

pub returns : goal.returns
returns c = next_cut _ _ _ c.read.ensures _ c.in_ok-read.was _ c.reach.ensures _ c.in-Some.is _ c.start_after.ensures
