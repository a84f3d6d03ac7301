-- `dump::digit`.
use borrow.Author.Rules.{rules}
use Rattle.text.proofs.Digits.{glyph_low, glyph_high}
use Rattle.dump.proofs.digit.Statement.{statement}
use Rattle.dump.proofs.digit.Tie as tie

pub digit_spec : {M : Type 1} → statement M
digit_spec =
    tie.close
    (tie.spec
    (λ c. search rules)
    (λ c. search rules)
    (λ c. search (glyph_low))
    (λ c. search (glyph_high)))
