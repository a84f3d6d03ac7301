-- `Image::hardware_reset`, over `Device::hardware_reset`.
use Rattle.std.proofs.Common.{◌∙◌}
use Rattle.image.proofs.Calls.{hardware_reset_told}
use Rattle.image.proofs.Image.hardware_reset.Goals as goal

pub returns : goal.returns
returns c = c.with_answer.ensures ∙ search (hardware_reset_told)
