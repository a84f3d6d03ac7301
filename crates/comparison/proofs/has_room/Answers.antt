use Rattle.std.proofs.Common.{arith}
use Rattle.comparison.proofs.Comparison.{lines_fit, size_fits, room_measured}
use Rattle.comparison.proofs.EveryComparison.{room_unmeasured}
use Rattle.comparison.proofs.has_room.Goals as goal

pub returns-then-room-ge160000 : goal.returns-then-room-ge160000
returns-then-room-ge160000 c = room_unmeasured _ _ _ c.if-room-ge160000.true

pub measure-requires : goal.measure-requires
measure-requires c = lines_fit _ _ _ c.requires _ c.is_ok.ensures.value

pub overflow_add-result : goal.overflow_add-result
overflow_add-result c = omega (arith, size_fits _ _ _ c.requires _ c.is_ok.ensures.value _ _ c.measure.ensures c.last_width.ensures)

pub returns : goal.returns
returns c = room_measured _ _ _ c.requires _ c.is_ok.ensures.value _ _ c.measure.ensures c.last_width.ensures _
