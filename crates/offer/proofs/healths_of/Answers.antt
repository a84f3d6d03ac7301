-- `offer::healths_of`: one health more.
use Rattle.std.proofs.Common.{refl}
use Rattle.offer.specs.Elements.{health_of, blank}
use Rattle.offer.proofs.Splits.{made_next}
use Rattle.offer.proofs.healths_of.Goals as goal

pub loop-place-preserved : goal.loop-place-preserved
loop-place-preserved c =
    made_next health_of 0 c.args.elements.now blank c.loop-place.place c.requires c.loop-place-test.true c.loop-place.healths c.loop-place.invariant _ refl
