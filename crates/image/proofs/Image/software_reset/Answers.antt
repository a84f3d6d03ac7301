-- `Image::software_reset`, over `Device::software_reset`.
use Rattle.std.proofs.Common.{◌∙◌}
use Rattle.image.proofs.Calls.{software_reset_told}
use Rattle.image.proofs.Image.software_reset.Goals as goal

pub returns : goal.returns
returns c = c.with_answer.ensures ∙ search (software_reset_told)
