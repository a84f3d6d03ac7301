-- `writing::eight`.
use mathlib.Core.Path.{refl}
use borrow.Author.Rules.{rules}
use Rattle.writing.proofs.Tens.{parts_bytes}
use Rattle.writing.proofs.eight.Statement.{statement}
use Rattle.writing.proofs.eight.Tie as tie

pub eight_spec : {M : Type 1} → statement M
eight_spec =
    tie.close
    (tie.spec
    (λ c κs. search rules)
    (λ c κs. search rules)
    (λ c. search rules)
    (λ c. search rules)
    (λ c. parts_bytes 4 c.before.before.args.n _ _ _ c.before.four.ensures c.four-2.ensures.0 refl))
