-- `replies::put_refusal`.
use Rattle.replies.proofs.DockReplies.{at_refusal}
use Rattle.replies.proofs.put_refusal.Goals as goal

pub returns-in-SmallBuffer : goal.returns-in-SmallBuffer
returns-in-SmallBuffer c = search (at_refusal)

pub returns-in-Offence : goal.returns-in-Offence
returns-in-Offence c = search (at_refusal)
