-- `status::put_list`: one descriptor more, and all of them.
use Rattle.std.proofs.Common.{◌≡◌, length, sym, rules, arith}
use Rattle.slices.proofs.Lists.{stored_none}
use Rattle.status.proofs.Page.{put_next, put_all}
use Rattle.status.proofs.put_list.Goals as goal

pub loop-k-init : goal.loop-k-init
loop-k-init c = sym (stored_none c.args.buf.now 32)

pub loop-k-preserved : goal.loop-k-preserved
loop-k-preserved c =
    let long : length c.args.places ≡ 128 = search rules in
    put_next c.args.ps c.args.hs c.args.places c.args.returned c.args.buf.now long c.requires.0 c.requires.1 c.loop-k.k c.loop-k.buf _ c.loop-k-test.true c.loop-k.invariant c.put_shown.ensures

pub returns : goal.returns
returns c =
    let long : length c.args.places ≡ 128 = search rules in
    put_all c.args.ps c.args.hs c.args.places c.args.returned c.args.buf.now long c.requires.0 c.requires.1 c.loop-k.k c.loop-k.buf c.loop-k.auto.k-end c.loop-k-test.false c.loop-k.invariant
