-- `rows::grade`.
use borrow.Author.Rules.{rules}
use Rattle.rows.proofs.Rows.{grade_laid}
use Rattle.rows.proofs.grade.Statement.{statement}
use Rattle.rows.proofs.grade.Tie as tie

pub grade_spec : {M : Type 1} → statement M
grade_spec =
    tie.close
    (tie.spec
    (λ c κs. search rules)
    (λ c. search rules)
    (λ c. search rules)
    (λ c. search rules)
    (λ c. search rules)
    (λ c. search (grade_laid)))
