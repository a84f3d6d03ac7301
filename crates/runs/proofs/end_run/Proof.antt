-- `runs::end_run`.
use borrow.Author.Rules.{rules}
use mathlib.Core.Path.{ap}
use Rattle.runs.specs.declared.Obeyed.{Obeyed}
use Rattle.runs.proofs.end_run.Statement.{statement}
use Rattle.runs.proofs.end_run.Tie as tie

pub end_run_spec : {M : Type 1} → statement M
end_run_spec =
    tie.close
    (tie.spec
    (λ c κs. search rules)
    (λ c. search rules)
    (λ c. search rules)
    (λ c. search rules)
    (λ c. (ap (λ (o : Obeyed). o.said) c.before.before.before.before.before.before.obey-obeyed.ensures.0, search rules)))
