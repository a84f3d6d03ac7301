use Rattle.std.proofs.Common.{arith, rules}
use Rattle.layout.proofs.Bytes.{descriptor_row}
use Rattle.layout.proofs.Descriptor.row.Goals as goal

pub returns : goal.returns
returns c =
    descriptor_row c.args.o c.args.self _ _ _ _ _ _ c.turned-id.ensures c.bit-restorable.ensures (omega (arith, c.from_le_bytes-marks.ensures))
    (search rules) (search rules) (search rules) c.joined4.ensures c.joined4-2.ensures c.turned.ensures
