-- `spelt::span_in`: a law for each way out.
use borrow.Author.Rules.{rules}
use Rattle.spelt.proofs.Spans.{span_none, span_there}
use Rattle.spelt.proofs.span_in.Statement.{statement}
use Rattle.spelt.proofs.span_in.Tie as tie

pub span_in_spec : {M : Type 1} → statement M
span_in_spec =
    tie.close
    (tie.spec
    (λ c κs. search rules)
    (λ c κs. search rules)
    (λ c. search (span_none))
    (λ c. search rules)
    (λ c. search rules)
    (λ c. search (span_there)))
