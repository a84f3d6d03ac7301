-- `making::make_device`: what the check's answer tells.
use Rattle.making.proofs.Making.{made_refused, made_fits, made_done}
use Rattle.making.proofs.make_device.Goals as goal

pub returns-in_default : goal.returns-in_default
returns-in_default c = made_refused c.args.there c.args.offer c.check.result c.check.ensures c.in_default.is

pub overflow_sub-start : goal.overflow_sub-start
overflow_sub-start c = made_fits c.args.there c.args.offer c.check.result c.check.ensures c.in-Some.blocks c.in-Some.is

pub returns : goal.returns
returns c =
    made_done c.args.there c.args.offer c.check.result c.check.ensures c.in-Some.blocks c.in-Some.is c.table.result c.healths.result c.table.ensures c.healths.ensures
