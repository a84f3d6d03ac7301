-- `calls::make_device`: the making of the offer goes by the list, and the device that it hands back fits its types.
use Rattle.std.proofs.Common.{◌∙◌, sym, subst}
use denote.Struct.Laws.{owed}
use Rattle.conduct.specs.Fits.{Fits}
use Rattle.device.specs.contracts.Stepped as Stepped
use Rattle.device.proofs.Stepped.TheLaws as Stepped'
use Rattle.paper.specs.Told.{said}
use Rattle.calls.proofs.Fits.{device_fits}
use Rattle.calls.proofs.Lists.{made_alike}
use Rattle.calls.proofs.make_device.Goals as goal

pub returns : goal.returns
returns c = (
  (λ i. said (c.stored_back.ensures.answer i) (c.stored_back.ensures.device i))
      ∙ (rw c.copied.ensures at c.make_in-r.ensures ∙ sym (made_alike c.args.d.now c.args.list.now c.args.limit)),
  subst Fits (sym c.stored_back.ensures.device)
      (device_fits c.make_in-r.result.device (owed Stepped.the_type Stepped'.the_laws c.make_in-r.result _ c.make_in-r.type_inv).0),
)
