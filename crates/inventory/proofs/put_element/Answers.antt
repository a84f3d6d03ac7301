-- `inventory::put_element`.
use Rattle.inventory.proofs.Inventory.{element_puts}
use Rattle.inventory.proofs.put_element.Goals as goal

pub returns : goal.returns
returns c = search (element_puts)
