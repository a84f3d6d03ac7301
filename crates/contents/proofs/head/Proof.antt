-- `contents::head`.
use borrow.Author.Rules.{rules}
use Rattle.contents.proofs.Contents.{bit_fits, head_laid}
use Rattle.contents.proofs.head.Statement.{statement}
use Rattle.contents.proofs.head.Tie as tie

pub head_spec : {M : Type 1} → statement M
head_spec =
    tie.close
    (tie.spec
    (λ c κs. search rules)
    (λ c κs. search rules)
    (λ c. search (bit_fits))
    (λ c. search rules)
    (λ c. search rules)
    (λ c. search rules)
    (λ c. search rules)
    (λ c. search rules)
    (λ c. search rules)
    (λ c. search rules)
    (λ c. search rules)
    (λ c. search (head_laid)))
