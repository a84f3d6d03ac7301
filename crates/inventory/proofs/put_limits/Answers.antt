-- `inventory::put_limits`.
use Rattle.inventory.proofs.Inventory.{limits_puts}
use Rattle.inventory.proofs.put_limits.Goals as goal

pub returns : goal.returns
returns c = search (limits_puts)
