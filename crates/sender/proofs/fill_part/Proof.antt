-- `sender::fill_part`: the header, which may be cut, and what follows it.
use borrow.Author.Rules.{rules}
use Rattle.sender.proofs.Sending.{still_most, part_filled}
use Rattle.sender.proofs.fill_part.Statement.{statement}
use Rattle.sender.proofs.fill_part.Tie as tie

pub fill_part_spec : {M : Type 1} → statement M
fill_part_spec =
    tie.close
    (tie.spec
    (λ c. search rules)
    (λ c κs. search rules)
    (λ c κs. search rules)
    (λ c κs. search rules)
    (λ c κs. search (still_most))
    (λ c. search rules)
    (λ c. search (part_filled)))
