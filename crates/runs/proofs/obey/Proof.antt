-- `runs::obey`.
use borrow.Author.Rules.{rules}
use Rattle.runs.proofs.Runs.{obeyed_page, obeyed-lent, obeyed_bench, obeyed_out}
use Rattle.runs.proofs.obey.Statement.{statement}
use Rattle.runs.proofs.obey.Tie as tie

pub obey_spec : {M : Type 1} → statement M
obey_spec =
    tie.close
    (tie.spec
    (λ c κs. search rules)
    (λ c κs. search rules)
    (λ c κs. search rules)
    (λ c κs. search rules)
    (λ c. search rules)
    (λ c. search rules)
    (λ c. search rules)
    (λ c. (search (obeyed_bench), (search (obeyed_page), (search (obeyed-lent), search (obeyed_out))))))
