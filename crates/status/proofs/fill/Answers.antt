-- `status::fill`: one place more, and the page put together.
use Rattle.std.proofs.Common.{rules}
use Rattle.status.proofs.Page.{listing_next, listing_all, filled}
use Rattle.status.proofs.Places.{list_none}
use Rattle.status.proofs.fill.Goals as goal

pub loop-i-init : goal.loop-i-init
loop-i-init c = (search rules, search rules, search rules, search rules, list_none _ _ _)

pub loop-i-preserved : goal.loop-i-preserved
loop-i-preserved c =
    listing_next _ _ _ _ c.loop-i.places c.loop-i.number c.loop-i.i c.loop-i.invariant c.loop-i-test.true c.does_ask.result c.does_ask.ensures

pub returns : goal.returns
returns c = search (filled, listing_all)
