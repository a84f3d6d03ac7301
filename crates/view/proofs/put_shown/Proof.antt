-- `view::put_shown`.
use borrow.Author.Rules.{rules}
use Rattle.view.proofs.Shown.{put_shown}
use Rattle.view.proofs.put_shown.Statement.{statement}
use Rattle.view.proofs.put_shown.Tie as tie

pub put_shown_spec : {M : Type 1} → statement M
put_shown_spec =
    tie.close
    (tie.spec
    (λ c κs. search rules)
    (λ c κs. search rules)
    (λ c κs. search rules)
    (λ c. search rules)
    (λ c. search (put_shown)))
