-- `inventory::put_note`.
use Rattle.inventory.proofs.Inventory.{note_empty}
use Rattle.inventory.proofs.put_note.Goals as goal

pub returns-in-Empty : goal.returns-in-Empty
returns-in-Empty c = search (note_empty)
