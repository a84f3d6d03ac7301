use Rattle.layout.proofs.Bytes.{header_row}
use Rattle.layout.proofs.Header.row.Goals as goal

pub returns : goal.returns
returns c =
    header_row c.args.o c.args.self _ _ _ _ _ _ _ _ c.turned-number.ensures c.turned-returned.ensures c.turned-busy.ensures c.turned-limit.ensures
    c.turned-removed.ensures c.joined4.ensures c.joined2.ensures c.joined4-2.ensures
