-- `runs::go_on`.
use borrow.Author.Rules.{rules}
use Rattle.runs.proofs.Runs.{as_went, as_page, as_lent, as_out}
use Rattle.runs.proofs.go_on.Statement.{statement}
use Rattle.runs.proofs.go_on.Tie as tie

pub go_on_spec : {M : Type 1} → statement M
go_on_spec =
    tie.close
    (tie.spec
    (λ c κs. search rules)
    (λ c κs. search rules)
    (λ c. search rules)
    (λ c. search rules)
    (λ c. search rules)
    (λ c. (search (as_went), (search (as_page), (search (as_lent), search (as_out))))))
