-- `contents::put_slot`: no line.
use Rattle.std.proofs.Common.{rules}
use Rattle.contents.proofs.Contents.{slot_none}
use Rattle.contents.proofs.put_slot.Goals as goal

pub returns-in-None : goal.returns-in-None
returns-in-None c = search (rules, slot_none)
