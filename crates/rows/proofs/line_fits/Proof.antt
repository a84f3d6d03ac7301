-- `rows::line_fits`.
use borrow.Author.Rules.{rules}
use Rattle.writing.proofs.Puts.{fits_unmeasured, fits_measured}
use Rattle.rows.proofs.Rows.{length_line}
use Rattle.rows.proofs.line_fits.Statement.{statement}
use Rattle.rows.proofs.line_fits.Tie as tie

pub line_fits_spec : {M : Type 1} → statement M
line_fits_spec =
    tie.close
    (tie.spec
    (λ c κs. search rules)
    (λ c. search (fits_unmeasured, length_line))
    (λ c κs. search rules)
    (λ c κs. search rules)
    (λ c. search (fits_measured)))
