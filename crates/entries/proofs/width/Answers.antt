use Rattle.std.proofs.Common.{rules}
use Rattle.entries.proofs.Entries.{measure_next, measure_room}
use Rattle.entries.proofs.width.Goals as goal

pub overflow_add-size : goal.overflow_add-size
overflow_add-size c = record {
  fits = measure_room c.args.o c.args.bytes.now c.loop-k.k c.descriptor_at-d.result c.descriptor_at-d.ensures c.loop-k.size c.descriptor_width-size.result
      c.loop-k.invariant c.descriptor_width-size.ensures c.args.count (search rules) (search rules);
}

pub loop-k-preserved : goal.loop-k-preserved
loop-k-preserved c =
    measure_next c.args.o c.args.bytes.now c.loop-k.k c.descriptor_at-d.result c.descriptor_at-d.ensures c.loop-k.size c.descriptor_width-size.result
    c.loop-k.invariant c.descriptor_width-size.ensures
