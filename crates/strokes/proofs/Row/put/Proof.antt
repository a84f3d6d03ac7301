-- `strokes::Row::put`.
use borrow.Author.Rules.{rules}
use Rattle.strokes.proofs.Strokes.{place-fits, row_put, row_none}
use Rattle.strokes.proofs.Row.put.Statement.{statement}
use Rattle.strokes.proofs.Row.put.Tie as tie

pub put_spec : {M : Type 1} → statement M
put_spec =
    tie.close
    (tie.spec
    (λ c κs. search rules)
    (λ c κs. search rules)
    (λ c. record { fits = search (place-fits, rules) })
    (λ c κs. search rules)
    (λ c. record { fits = search (place-fits, rules) })
    (λ c κs. search rules)
    (λ c. record { fits = search (place-fits, rules) })
    (λ c κs. search rules)
    (λ c. search rules)
    (λ c. search (row_put))
    (λ c. search (row_none)))
