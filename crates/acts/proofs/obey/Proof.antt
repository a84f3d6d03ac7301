-- `acts::obey`.
use borrow.Author.Rules.{rules}
use Rattle.acts.proofs.Acts.{at_act, at_page, at_lent, element-act, bare_act, grade_act}
use Rattle.acts.proofs.obey.Statement.{statement}
use Rattle.acts.proofs.obey.Tie as tie

pub obey_spec : {M : Type 1} → statement M
obey_spec =
    tie.close
    (tie.spec
    (λ c. search rules)
    (λ c κs. search rules)
    (λ c. search rules)
    (λ c κs. search rules)
    (λ c. search rules)
    (λ c κs. search rules)
    (λ c κs. search rules)
    (λ c. search rules)
    (λ c κs. search rules)
    (λ c. search rules)
    (λ c κs. search rules)
    (λ c. search rules)
    (λ c κs. search rules)
    (λ c κs. search rules)
    (λ c. search rules)
    (λ c κs. search rules)
    (λ c κs. search rules)
    (λ c. search rules)
    (λ c κs. search rules)
    (λ c. search rules)
    (λ c κs. search rules)
    (λ c. search rules)
    (λ c κs. search rules)
    (λ c. (search (at_act), (search (at_page), search (at_lent))))
    (λ c. (search (at_act), (search (at_page), search (at_lent))))
    (λ c. (search (element-act), (search (at_page), search (at_lent))))
    (λ c. (search (at_act), (search (at_page), search (at_lent))))
    (λ c. search rules)
    (λ c. search rules)
    (λ c. (search (at_act), (search (at_page), search (at_lent))))
    (λ c. (search (bare_act), (search (at_page), search (at_lent))))
    (λ c. (search (grade_act), (search (at_page), search (at_lent))))
    (λ c. (search (at_act), (search (at_page), search (at_lent))))
    (λ c. search rules)
    (λ c. (search (at_act), (search (at_page), search (at_lent))))
    (λ c. search rules)
    (λ c. search rules)
    (λ c. (search (at_act), (search (at_page), search (at_lent)))))
