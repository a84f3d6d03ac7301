-- Demand 1: "A refusal has the number of document 01 and changes neither the device nor a byte lent to us." The number is each call's own
-- promise, and no second one fits (calls/specs/Promises, `OneFits`; of the conversions convert/specs/Promises, `OneOutcome`).
use Rattle.calls.specs.Promises.{RefusalLeavesBoth, RefusedListLeaves}
use Rattle.convert.specs.Promises as convert
use Rattle.conduct.specs.Promises.{RefusalLeaves}
use Rattle.paper.specs.Promises.{RefusalWritesNothing}
use Rattle.sender.specs.Promises.{UnsentLeavesBytes}
use Rattle.status.specs.Promises.{RefusalLeavesBytes}

-- of every call that changes what is lent
pub record Demand1 : Type 0 where
  -- the calls on a device, the front call with its buffer, the status page, the making of a device
  pub changing : RefusalLeaves
  pub command : RefusalLeavesBoth
  pub showing : RefusalLeavesBytes
  -- the data for a SCSI host, and the conversions
  pub sending : UnsentLeavesBytes
  pub converting : convert.RefusalLeavesBytes
  pub making : RefusedListLeaves
  -- the listing and the comparison, and any other text in a lent buffer
  pub printing : RefusalWritesNothing
