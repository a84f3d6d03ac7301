-- `entries::lines_fit`.
use borrow.Author.Rules.{rules}
use Rattle.writing.proofs.Puts.{fits_unmeasured, fits_measured}
use Rattle.entries.proofs.Entries.{length_lines}
use Rattle.entries.proofs.lines_fit.Statement.{statement}
use Rattle.entries.proofs.lines_fit.Tie as tie

pub lines_fit_spec : {M : Type 1} → statement M
lines_fit_spec =
    tie.close
    (tie.spec
    (λ c. search rules)
    (λ c κs. search rules)
    (λ c. search (fits_unmeasured, length_lines))
    (λ c κs. search rules)
    (λ c κs. search rules)
    (λ c. search (fits_measured)))
