-- `docking::answer_over`.
use borrow.Author.Rules.{rules}
use Rattle.docking.proofs.Calls.{over_told}
use Rattle.docking.proofs.answer_over.Statement.{statement}
use Rattle.docking.proofs.answer_over.Tie as tie

pub answer_over_spec : {M : Type 1} → statement M
answer_over_spec =
    tie.close
    (tie.spec
    (λ c κs. search rules)
    (λ c κs. search rules)
    (λ c. search rules)
    (λ c. (search rules, search (over_told))))
