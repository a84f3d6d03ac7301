-- The first i lines are put, and `at` is the place after them.
use Rattle.writing.specs.Private.{Puts}
use Rattle.inventory.specs.Inventory.{elements_below}
use Rattle.inventory.proofs.put_elements.Given as goal

abbrev pub invariant-loop-i : goal.invariant-loop-i
invariant-loop-i l = Puts l.fn.out l.from (elements_below l.ps l.healths l.i) l.out l.at
