-- `docking::call`: over as many bytes as the line says, and as there are.
use borrow.Author.Rules.{rules}
use Rattle.docking.proofs.Calls.{called}
use Rattle.docking.proofs.call.Statement.{statement}
use Rattle.docking.proofs.call.Tie as tie

pub call_spec : {M : Type 1} → statement M
call_spec =
    tie.close
    (tie.spec
    (λ c κs. search rules)
    (λ c. search rules)
    (λ c. search rules)
    (λ c. search rules)
    (λ c κs. search rules)
    (λ c. search rules)
    (λ c. let over = c.before.before.answer_over-said in
    called _ _ _ _ _ c.before.before.before.before.smaller-room.ensures over.result _ over.ensures.0 _ over.ensures.1 (search rules)))
