-- `contents::put_list`.
use Rattle.contents.proofs.Contents.{list_puts}
use Rattle.contents.proofs.put_list.Goals as goal

pub returns : goal.returns
returns c = search (list_puts)
