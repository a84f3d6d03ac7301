-- `contents::put_slots`: no line, and one more.
use Rattle.writing.proofs.Puts.{puts_none}
use Rattle.contents.proofs.Contents.{slots_next}
use Rattle.contents.proofs.put_slots.Goals as goal

pub loop-k-init : goal.loop-k-init
loop-k-init c = puts_none _ _

pub loop-k-preserved : goal.loop-k-preserved
loop-k-preserved c = search (slots_next)
