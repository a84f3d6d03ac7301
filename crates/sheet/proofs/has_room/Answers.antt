use Rattle.std.proofs.Common.{rules}
use Rattle.sheet.proofs.Sheet.{room_unmeasured, two_fit, three_fit, room_measured}
use Rattle.sheet.proofs.has_room.Goals as goal

pub returns-then-tally-room : goal.returns-then-tally-room
returns-then-tally-room c = search (room_unmeasured)

pub overflow_add-result : goal.overflow_add-result
overflow_add-result c = record {
  fits = two_fit c.args.o c.args.bytes.now c.args.header c.args.tally.whole c.args.tally.number c.args.tally.torn _ _ 0 c.header_width.ensures
      c.width-lines.ensures (search rules);
}

pub overflow_add-result-2 : goal.overflow_add-result-2
overflow_add-result-2 c = record {
  fits = three_fit c.args.o c.args.bytes.now c.args.header c.args.tally.whole c.args.tally.number c.args.tally.torn _ _ _ c.header_width.ensures
      c.width-lines.ensures c.width.ensures (search rules);
}

pub returns : goal.returns
returns c =
    room_measured c.args.o c.args.bytes.now c.args.header c.args.tally.whole c.args.tally.number c.args.tally.torn _ _ _ c.header_width.ensures c.width-lines.ensures
    c.width.ensures c.args.room
