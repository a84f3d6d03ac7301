-- `strokes::put_times`.
use borrow.Author.Rules.{rules}
use Rattle.slices.proofs.Lists.{fits_there}
use Rattle.strokes.proofs.Strokes.{times-not}
use Rattle.strokes.proofs.put_times.Statement.{statement}
use Rattle.strokes.proofs.put_times.Tie as tie

pub put_times_spec : {M : Type 1} → statement M
put_times_spec =
    tie.close
    (tie.spec
    (λ c κs. search rules)
    (λ c κs. search (fits_there))
    (λ c. search rules)
    (λ c. search rules)
    (λ c. search (times-not)))
