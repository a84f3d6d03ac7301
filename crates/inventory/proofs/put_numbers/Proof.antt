-- `inventory::put_numbers`.
use borrow.Author.Rules.{rules}
use Rattle.inventory.proofs.Inventory.{numbers_puts}
use Rattle.inventory.proofs.put_numbers.Statement.{statement}
use Rattle.inventory.proofs.put_numbers.Tie as tie

pub put_numbers_spec : {M : Type 1} → statement M
put_numbers_spec =
    tie.close
    (tie.spec
    (λ c κs. search rules)
    (λ c κs. search rules)
    (λ c. search rules)
    (λ c. search (numbers_puts)))
