-- `changes::has_room`.
use borrow.Author.Rules.{rules}
use Rattle.writing.proofs.Puts.{fits_unmeasured, fits_measured}
use Rattle.changes.proofs.Lengths.{length_line}
use Rattle.changes.proofs.has_room.Statement.{statement}
use Rattle.changes.proofs.has_room.Tie as tie

pub has_room_spec : {M : Type 1} → statement M
has_room_spec =
    tie.close
    (tie.spec
    (λ c κs. search rules)
    (λ c. search (fits_unmeasured, length_line))
    (λ c κs. search rules)
    (λ c κs. search rules)
    (λ c. search (fits_measured)))
