-- `replies::put_answer`.
use Rattle.replies.proofs.Answers.{answer_puts}
use Rattle.replies.proofs.put_answer.Goals as goal

pub returns : goal.returns
returns c = search (answer_puts)
