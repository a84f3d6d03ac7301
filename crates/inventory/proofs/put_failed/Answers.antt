-- `inventory::put_failed`.
use Rattle.inventory.proofs.Inventory.{failed_puts}
use Rattle.inventory.proofs.put_failed.Goals as goal

pub returns : goal.returns
returns c = search (failed_puts)
