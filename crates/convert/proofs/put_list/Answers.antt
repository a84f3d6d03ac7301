-- `convert::put_list`: none, one more and all.
use Rattle.std.proofs.Common.{rules, arith, ◌+◌, ◌*◌, ◌-◌}
use Rattle.convert.proofs.Turned.{put_none, put_on, put_all}
use Rattle.convert.proofs.put_list.Goals as goal

pub loop-k-init : goal.loop-k-init
loop-k-init c = put_none _ _ _ _ _

pub loop-k-preserved : goal.loop-k-preserved
loop-k-preserved c =
    let at = 32 + 32 * c.loop-k.k in
    put_on _ _ _ _ _ c.loop-k.buf c.loop-k.k c.loop-k.invariant c.requires.1 c.loop-k-test.true (at + 32 - at) (omega arith) _ c.turned_part-row.ensures _ c.put.ensures

pub returns : goal.returns
returns c = search (rules, put_all)
