-- `listing::list`: what was read, and a refusal.
use Rattle.std.proofs.Common.{rules}
use Rattle.listing.proofs.Listing.{accepted-listed, refused-listed}
use Rattle.listing.proofs.list.Goals as goal

pub returns-in-Ok-clause-out_after : goal.returns-in-Ok-clause-out_after
returns-in-Ok-clause-out_after c = search (rules, accepted-listed)

pub returns-in-Err-clause-out_after : goal.returns-in-Err-clause-out_after
returns-in-Err-clause-out_after c = search (rules, refused-listed)
