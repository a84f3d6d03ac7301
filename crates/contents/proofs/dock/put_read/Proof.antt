-- `contents::docking::put_read`.
use borrow.Author.Rules.{rules}
use Rattle.contents.proofs.DockContents.{read_puts}
use Rattle.contents.proofs.dock.put_read.Statement.{statement}
use Rattle.contents.proofs.dock.put_read.Tie as tie

pub put_read_spec : {M : Type 1} → statement M
put_read_spec =
    tie.close
    (tie.spec
    (λ c κs. search rules)
    (λ c κs. search rules)
    (λ c. search rules)
    (λ c. search (read_puts)))
