-- `moves::ask_line`.
use borrow.Author.Rules.{rules}
use Rattle.moves.proofs.Moves.{ask_laid}
use Rattle.moves.proofs.ask_line.Statement.{statement}
use Rattle.moves.proofs.ask_line.Tie as tie

pub ask_line_spec : {M : Type 1} → statement M
ask_line_spec =
    tie.close
    (tie.spec
    (λ c. search rules)
    (λ c κs. search rules)
    (λ c. search rules)
    (λ c κs. search rules)
    (λ c. search (ask_laid)))
