-- `dump::put_page`.
use native.Mathlib.Omega.{arith}
use borrow.Author.Rules.{rules}
use borrow.Author.Tests.{not-true, not-false}
use Rattle.writing.proofs.Puts.{none_stored_in, none_ended_in}
use Rattle.dump.proofs.Dump.{page_stored, page_ended}
use Rattle.dump.proofs.put_page.Statement.{statement}
use Rattle.dump.proofs.put_page.Tie as tie

pub put_page_spec : {M : Type 1} → statement M
put_page_spec =
    tie.close
    (tie.spec
    (λ c κs. search rules)
    (λ c. (search (none_stored_in, not-true), search (none_ended_in, not-true)))
    (λ c κs. search rules)
    (λ c κs. omega arith)
    (λ c κs. search rules)
    (λ c. search rules)
    (λ c κs. search rules)
    (λ c. search rules)
    (λ c. (search (page_stored, not-false), search (page_ended, not-false))))
