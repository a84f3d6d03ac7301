-- `contents::put_held`.
use Rattle.contents.proofs.Contents.{held_puts}
use Rattle.contents.proofs.put_held.Goals as goal

pub returns : goal.returns
returns c = search (held_puts)
