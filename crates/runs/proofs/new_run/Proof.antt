-- `runs::new_run`.
use borrow.Author.Rules.{rules}
use Rattle.runs.proofs.new_run.Statement.{statement}
use Rattle.runs.proofs.new_run.Tie as tie

pub new_run_spec : {M : Type 1} → statement M
new_run_spec =
    tie.close
    (tie.spec
    (λ c κs. search rules)
    (λ c κs. search rules)
    (λ c. simp (c.before.nothing.ensures, c.empty.ensures)))
