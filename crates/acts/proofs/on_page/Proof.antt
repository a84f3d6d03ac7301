-- `acts::on_page`.
use borrow.Author.Rules.{rules}
use Rattle.acts.proofs.Acts.{page_act}
use Rattle.acts.proofs.on_page.Statement.{statement}
use Rattle.acts.proofs.on_page.Tie as tie

pub on_page_spec : {M : Type 1} → statement M
on_page_spec =
    tie.close
    (tie.spec
    (λ c κs. search rules)
    (λ c κs. search rules)
    (λ c κs. search rules)
    (λ c κs. search rules)
    (λ c. search rules)
    (λ c. (search (page_act), search rules)))
