-- `recorder_make`: the making of the offer goes by the list, and the record that it hands back fits its types.
use Rattle.std.proofs.Common.{◌∙◌, sym, subst}
use denote.Struct.Laws.{owed}
use Rattle.conduct.specs.Fits.{Fits}
use Rattle.image.specs.Reading.{device_of}
use Rattle.image.specs.contracts.Imaged as Imaged
use Rattle.image.specs.declared.Image.{Image}
use Rattle.image.proofs.Imaged.TheLaws as Imaged'
use Rattle.paper.specs.Told.{tells}
use Rattle.recorder.proofs.Fits.{image_fits}
use Rattle.recorder.proofs.Front.{made_in_lem}
use Rattle.recorder.proofs.recorder_make.Goals as goal

pub returns : goal.returns
returns c = (
  (λ i. tells (c.stored_back.ensures.answer i) (c.stored_back.ensures.image i))
      ∙ (rw c.copied.ensures at c.make-r.ensures ∙ made_in_lem c.args.d.now c.args.list.now c.args.limit),
  subst (λ (i : Image). Fits (device_of i)) (sym c.stored_back.ensures.image)
      (image_fits c.make-r.result.image (owed Imaged.the_type Imaged'.the_laws c.make-r.result _ c.make-r.type_inv).0),
)
