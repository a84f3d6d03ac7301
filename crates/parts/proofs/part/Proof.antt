-- `parts::part`.
use borrow.Author.Rules.{rules}
use Rattle.parts.proofs.Portions.{part_older, part_newer, part_changed}
use Rattle.parts.proofs.part.Statement.{statement}
use Rattle.parts.proofs.part.Tie as tie

pub part_spec : {M : Type 1} → statement M
part_spec =
    tie.close
    (tie.spec
    (λ c. search rules)
    (λ c κs. search rules)
    (λ c. search rules)
    (λ c κs. search rules)
    (λ c. search rules)
    (λ c κs. search rules)
    (λ c. search (part_older))
    (λ c. search (part_newer))
    (λ c. search (part_changed)))
