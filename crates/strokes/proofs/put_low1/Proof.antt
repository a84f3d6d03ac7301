-- `strokes::put_low1`.
use borrow.Author.Rules.{rules}
use Rattle.strokes.proofs.Strokes.{low_one, low_none}
use Rattle.strokes.proofs.put_low1.Statement.{statement}
use Rattle.strokes.proofs.put_low1.Tie as tie

pub put_low1_spec : {M : Type 1} → statement M
put_low1_spec =
    tie.close
    (tie.spec
    (λ c. search rules)
    (λ c. search rules)
    (λ c. search rules)
    (λ c. search (low_one))
    (λ c. search (low_none)))
