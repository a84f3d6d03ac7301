-- `writing::decimal`.
use borrow.Author.Rules.{rules}
use Rattle.text.proofs.Digits.{length_decimal}
use Rattle.writing.proofs.Puts.{room_stored, room_ended}
use Rattle.writing.proofs.Spelled.{shown-stored, shown-ended}
use Rattle.writing.proofs.decimal.Statement.{statement}
use Rattle.writing.proofs.decimal.Tie as tie

pub decimal_spec : {M : Type 1} → statement M
decimal_spec =
    tie.close
    (tie.spec
    (λ c κs. search rules)
    (λ c κs. search rules)
    (λ c. search rules)
    (λ c. (search (room_stored, length_decimal), search (room_ended, length_decimal)))
    (λ c κs. search rules)
    (λ c κs. search rules)
    (λ c. search rules)
    (λ c. (search (shown-stored), search (shown-ended))))
