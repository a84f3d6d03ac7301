-- `inventory::put_removal`.
use Rattle.inventory.proofs.Inventory.{removal_puts}
use Rattle.inventory.proofs.put_removal.Goals as goal

pub returns : goal.returns
returns c = search (removal_puts)
