-- `contents::put_judged`.
use Rattle.contents.proofs.Contents.{judged-refused}
use Rattle.contents.proofs.put_judged.Goals as goal

pub returns-in-Err : goal.returns-in-Err
returns-in-Err c = search (judged-refused)
