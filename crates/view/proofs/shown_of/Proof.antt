-- `view::shown_of`.
use borrow.Author.Rules.{rules}
use Rattle.view.proofs.Shown.{shown_made}
use Rattle.view.proofs.shown_of.Statement.{statement}
use Rattle.view.proofs.shown_of.Tie as tie

pub shown_of_spec : {M : Type 1} → statement M
shown_of_spec =
    tie.close
    (tie.spec
    (λ c κs. search rules)
    (λ c. search (shown_made)))
