-- `Image::power_cut`, over `Device::power_cut`.
use Rattle.std.proofs.Common.{◌∙◌}
use Rattle.image.proofs.Calls.{cut_told}
use Rattle.image.proofs.Image.power_cut.Goals as goal

pub returns : goal.returns
returns c = c.with_answer.ensures ∙ search (cut_told)
