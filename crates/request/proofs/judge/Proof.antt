-- `request::judge`: a law for each way out.
use borrow.Author.Rules.{rules}
use Rattle.request.proofs.Judgement.{judge-locked, judge-refused, judge_small, judge_done}
use Rattle.request.proofs.judge.Statement.{statement}
use Rattle.request.proofs.judge.Tie as tie

pub judge_spec : {M : Type 1} → statement M
judge_spec =
    tie.close
    (tie.spec
    (λ c κs. search rules)
    (λ c. search (judge-locked))
    (λ c κs. search rules)
    (λ c. search (judge-refused))
    (λ c. search rules)
    (λ c. search rules)
    (λ c. search (judge_small))
    (λ c. search (judge_done)))
