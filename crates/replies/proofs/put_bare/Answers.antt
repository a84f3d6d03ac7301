-- `replies::put_bare`.
use Rattle.replies.proofs.DockReplies.{at_bare, refused_bare}
use Rattle.replies.proofs.put_bare.Goals as goal

pub returns-in-Ok : goal.returns-in-Ok
returns-in-Ok c = search (at_bare)

pub returns-in-Err : goal.returns-in-Err
returns-in-Err c = search (refused_bare)
