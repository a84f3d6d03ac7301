-- `inventory::put_end`.
use Rattle.inventory.proofs.Inventory.{end_puts}
use Rattle.inventory.proofs.put_end.Goals as goal

pub returns : goal.returns
returns c = search (end_puts)
