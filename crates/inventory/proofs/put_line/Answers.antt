-- `inventory::put_line`.
use Rattle.inventory.proofs.Inventory.{line_puts}
use Rattle.inventory.proofs.put_line.Goals as goal

pub returns : goal.returns
returns c = search (line_puts)
