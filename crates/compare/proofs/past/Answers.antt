use Rattle.std.proofs.Common.{rules}
use borrow.Author.Tests.{not-true, not-false}
use Rattle.compare.proofs.Places.{element_read}
use Rattle.compare.proofs.Steps.{turn_outside, turn_again, turn_ends}
use Rattle.compare.proofs.past.Goals as goal

pub loop-frame-preserved : goal.loop-frame-preserved
loop-frame-preserved c = search (rules, turn_again, element_read, not-false)

pub returns-after-loop-frame : goal.returns-after-loop-frame
returns-after-loop-frame c = search (rules, turn_outside)

pub returns-then-not-do_agree : goal.returns-then-not-do_agree
returns-then-not-do_agree c = search (rules, turn_ends, element_read, not-true)
