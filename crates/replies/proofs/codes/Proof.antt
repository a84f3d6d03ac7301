-- `replies::codes`.
use borrow.Author.Rules.{rules}
use Rattle.replies.proofs.Answers.{codes_laid}
use Rattle.replies.proofs.codes.Statement.{statement}
use Rattle.replies.proofs.codes.Tie as tie

pub codes_spec : {M : Type 1} → statement M
codes_spec =
    tie.close
    (tie.spec
    (λ c κs. search rules)
    (λ c κs. search rules)
    (λ c κs. search rules)
    (λ c. search rules)
    (λ c. search rules)
    (λ c. search rules)
    (λ c. search rules)
    (λ c. search rules)
    (λ c. search (codes_laid)))
