-- `offer::parts_of`: one part more.
use Rattle.table.specs.Elements.{blank_part}
use Rattle.offer.specs.Elements.{part_of, blank}
use Rattle.offer.proofs.Splits.{made_next}
use Rattle.offer.proofs.parts_of.Goals as goal

pub loop-place-preserved : goal.loop-place-preserved
loop-place-preserved c =
    made_next part_of blank_part c.args.elements.now blank c.loop-place.place c.requires c.loop-place-test.true c.loop-place.parts c.loop-place.invariant c.part_of.result c.part_of.ensures
