use Rattle.std.proofs.Common.{rules}
use Rattle.spelt.proofs.Spans.{span_older, span_newer, span_both, span_other}
use Rattle.spelt.proofs.span_of.Goals as goal

pub returns-in-1 : goal.returns-in-1
returns-in-1 c = search (rules, span_older)

pub returns-in-2 : goal.returns-in-2
returns-in-2 c = search (rules, span_newer)

pub returns-in-3 : goal.returns-in-3
returns-in-3 c = search (rules, span_both)

pub returns-in_default : goal.returns-in_default
returns-in_default c = search (rules, span_other)
