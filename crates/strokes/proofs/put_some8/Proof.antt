-- `strokes::put_some8`.
use Rattle.slices.proofs.Lists.{cut_none}
use borrow.Author.Rules.{rules}
use Rattle.strokes.proofs.Strokes.{some_few, some_all, some_low}
use Rattle.strokes.proofs.put_some8.Statement.{statement}
use Rattle.strokes.proofs.put_some8.Tie as tie

pub put_some8_spec : {M : Type 1} → statement M
put_some8_spec =
    tie.close
    (tie.spec
    (λ c κs. search rules)
    (λ c κs. search rules)
    (λ c. search rules)
    (λ c κs. (search (some_few), search rules))
    (λ c. search rules)
    (λ c. search (some_all))
    (λ c. search rules)
    (λ c. search (some_low))
    (λ c. search (cut_none)))
