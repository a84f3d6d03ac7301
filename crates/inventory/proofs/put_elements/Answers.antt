-- `inventory::put_elements`: none, and one line more.
use Rattle.writing.proofs.Puts.{puts_none}
use Rattle.inventory.proofs.Inventory.{elements_next}
use Rattle.inventory.proofs.put_elements.Goals as goal

pub loop-i-init : goal.loop-i-init
loop-i-init c = puts_none c.args.out.now c.args.from

pub loop-i-preserved : goal.loop-i-preserved
loop-i-preserved c = search (elements_next)
