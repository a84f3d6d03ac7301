-- `runs::go_from`.
use borrow.Author.Rules.{rules}
use borrow.Author.Tests.{not-true, not-false}
use Rattle.runs.proofs.Runs.{kept_went, kept_page, kept_lent, kept_out, whole_went, whole_page, whole_lent, whole_out}
use Rattle.runs.proofs.go_from.Statement.{statement}
use Rattle.runs.proofs.go_from.Tie as tie

pub go_from_spec : {M : Type 1} → statement M
go_from_spec =
    tie.close
    (tie.spec
    (λ c. (search (kept_went, not-true), (search (kept_page, not-true), (search (kept_lent, not-true), search (kept_out, not-true)))))
    (λ c κs. search rules)
    (λ c κs. search rules)
    (λ c. search rules)
    (λ c. search rules)
    (λ c. search rules)
    (λ c. (search (whole_went, not-false), (search (whole_page, not-false), (search (whole_lent, not-false), search (whole_out, not-false))))))
