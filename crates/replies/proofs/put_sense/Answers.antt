-- `replies::put_sense`.
use Rattle.replies.proofs.Answers.{sense_none, sense_puts}
use Rattle.replies.proofs.put_sense.Goals as goal

pub returns-in-None : goal.returns-in-None
returns-in-None c = search (sense_none)

pub returns-in-Some : goal.returns-in-Some
returns-in-Some c = search (sense_puts)
