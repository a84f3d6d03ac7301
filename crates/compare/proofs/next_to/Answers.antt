use Rattle.std.proofs.Common.{rules, arith}
use borrow.Author.Tests.{not-true}
use Rattle.compare.proofs.Steps.{pair_again, pair_ends}
use Rattle.compare.proofs.next_to.Goals as goal

pub returns-then-not-do_agree : goal.returns-then-not-do_agree
returns-then-not-do_agree c = search (rules, pair_ends, not-true)

pub loop-k-preserved : goal.loop-k-preserved
loop-k-preserved c =
    pair_again _ _ _ _ _ _ c.pairs-n.ensures (omega arith) _ _ c.whole_at-d.ensures c.whole_at-e.ensures _ c.do_agree.ensures c.loop-k.invariant c.if-not-do_agree.false
