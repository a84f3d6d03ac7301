-- `view::put_header`.
use borrow.Author.Rules.{rules}
use Rattle.view.proofs.Shown.{put_there}
use Rattle.view.proofs.put_header.Statement.{statement}
use Rattle.view.proofs.put_header.Tie as tie

pub put_header_spec : {M : Type 1} → statement M
put_header_spec =
    tie.close
    (tie.spec
    (λ c κs. search rules)
    (λ c κs. search rules)
    (λ c. search rules)
    (λ c. search (put_there)))
