-- `lines::parts::skip`: what is skipped from here on is what is skipped from the start.
use Rattle.std.proofs.Common.{◌≡◌, drop}
use Rattle.lines.specs.Parts.{drop_while}
use Rattle.lines.specs.Private.{space_or}
use Rattle.lines.proofs.parts.skip.Given as goal

abbrev pub invariant-loop-at : goal.invariant-loop-at
invariant-loop-at l = drop_while (space_or l.space) (drop l.at l.line) ≡ drop_while (space_or l.space) (drop l.from l.line)
