-- `offer::Offer::check`: no table of that size, or what the walk says.
use Rattle.offer.proofs.Check.{check_unsized, check_walked}
use Rattle.offer.proofs.Offer.check.Goals as goal

pub returns-then-not-is_sized : goal.returns-then-not-is_sized
returns-then-not-is_sized c = check_unsized c.args.self c.is_sized.result c.is_sized.ensures c.if-not-is_sized.true

pub returns : goal.returns
returns c = check_walked c.args.self c.is_sized.result c.is_sized.ensures c.if-not-is_sized.false c.walk.result c.walk.ensures
