-- `writing::width`.
use mathlib.Core.Path.{ap}
use borrow.Author.Rules.{rules}
use Rattle.writing.specs.declared.Spelling.{Spelling}
use Rattle.writing.proofs.width.Statement.{statement}
use Rattle.writing.proofs.width.Tie as tie

pub width_spec : {M : Type 1} → statement M
width_spec =
    tie.close
    (tie.spec
    (λ c κs. search rules)
    (λ c. ap (λ (s : Spelling). s.count) c.decimal_of.ensures))
