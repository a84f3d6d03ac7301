-- `ending::put_refused`.
use Rattle.ending.proofs.Ending.{refused_older, refused_newer}
use Rattle.ending.proofs.put_refused.Goals as goal

pub returns-in-Older : goal.returns-in-Older
returns-in-Older c = search (refused_older)

pub returns-in-Newer : goal.returns-in-Newer
returns-in-Newer c = search (refused_newer)
