use Rattle.std.proofs.Common.{rules}
use Rattle.dump.proofs.Dump.{zero-not, zero_next, zero-all}
use Rattle.dump.proofs.is_zero.Goals as goal

pub returns-then-bytes-k-ne0 : goal.returns-then-bytes-k-ne0
returns-then-bytes-k-ne0 c = zero-not c.args.bytes.now c.requires c.loop-k.k (search rules) c.loop-k.invariant c.if-bytes-k-ne0.true

pub loop-k-preserved : goal.loop-k-preserved
loop-k-preserved c = zero_next c.args.bytes.now c.requires c.loop-k.k (search rules) c.loop-k.invariant c.if-bytes-k-ne0.false

pub returns : goal.returns
returns c = zero-all c.args.bytes.now c.requires c.loop-k.k (search rules) c.loop-k.invariant
