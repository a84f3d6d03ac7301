-- `changes::line_width`.
use borrow.Author.Rules.{rules}
use Rattle.changes.proofs.Changes.{width_fits, arrow_fits, both_fit, width_older, width_newer, width_changed}
use Rattle.changes.proofs.line_width.Statement.{statement}
use Rattle.changes.proofs.line_width.Tie as tie

pub line_width_spec : {M : Type 1} → statement M
line_width_spec =
    tie.close
    (tie.spec
    (λ c κs. search rules)
    (λ c κs. search rules)
    (λ c. search (width_fits))
    (λ c. search rules)
    (λ c. search rules)
    (λ c. search rules)
    (λ c. search (arrow_fits))
    (λ c κs. search rules)
    (λ c κs. search rules)
    (λ c. search (both_fit))
    (λ c. search (width_older))
    (λ c. search (width_newer))
    (λ c. search (width_changed)))
