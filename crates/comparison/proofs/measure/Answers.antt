use Rattle.std.proofs.Common.{true, arith, rules}
use borrow.Author.Tests.{not-true}
use Rattle.comparison.proofs.Comparison.{measure_none, measure_end, measure_next, measure_room, next_less}
use Rattle.comparison.proofs.measure.Goals as goal

pub returns-then-not-accepted : goal.returns-then-not-accepted
returns-then-not-accepted c = search (rules, measure_none, not-true)

pub overflow_add-size : goal.overflow_add-size
overflow_add-size c = omega (arith, measure_room _ _ true _ _ c.next.ensures _ c.in-Some.is _ _ _ c.loop-hit.invariant c.line_width-size.ensures c.requires)

pub loop-hit-smaller : goal.loop-hit-smaller
loop-hit-smaller c = next_less _ _ _ _ c.next.ensures _ c.in-Some.is

pub loop-hit-preserved : goal.loop-hit-preserved
loop-hit-preserved c = measure_next _ _ true _ _ c.next.ensures _ c.in-Some.is _ _ _ c.loop-hit.invariant c.line_width-size.ensures

pub returns : goal.returns
returns c = measure_end _ _ true _ _ c.next.ensures _ _ c.loop-hit.invariant c.in_default.is
