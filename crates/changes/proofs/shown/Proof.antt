-- `changes::shown`.
use borrow.Author.Rules.{rules}
use Rattle.changes.proofs.Changes.{shown_older, shown_newer, shown-changed}
use Rattle.changes.proofs.shown.Statement.{statement}
use Rattle.changes.proofs.shown.Tie as tie

pub shown_spec : {M : Type 1} → statement M
shown_spec =
    tie.close
    (tie.spec
    (λ c. search rules)
    (λ c κs. search rules)
    (λ c. search rules)
    (λ c κs. search rules)
    (λ c. search rules)
    (λ c κs. search rules)
    (λ c. search (shown_older))
    (λ c. search (shown_newer))
    (λ c. search (shown-changed)))
