-- `inventory::put_cells`.
use borrow.Author.Rules.{rules}
use borrow.Author.Tests.{not-true, not-false}
use Rattle.writing.proofs.Puts.{none_stored_in, none_ended_in, whole_stored_in, whole_ended_in}
use Rattle.writing.specs.Private.{Puts}
use Rattle.inventory.specs.Inventory.{cells_of}
use Rattle.inventory.proofs.Inventory.{cells_puts, length_cells}
use Rattle.inventory.proofs.put_cells.Statement.{statement}
use Rattle.inventory.proofs.put_cells.Tie as tie

pub put_cells_spec : {M : Type 1} → statement M
put_cells_spec =
    tie.close
    (tie.spec
    (λ c κs. search rules)
    (λ c. (search (none_stored_in, not-true), search (none_ended_in, not-true)))
    (λ c κs. search rules)
    (λ c κs. search rules)
    (λ c. search rules)
    (λ c. let s = c.before.before.before.before.before.before.before.before.before.before.before.before.before.before.before.args in
    let last = c.before.before.put_elements in
    let text : Puts s.out.now s.at (cells_of s.d) last.new.out last.result = search (cells_puts) in
    (search (whole_stored_in, not-false, length_cells), search (whole_ended_in, not-false, length_cells))))
