-- `Image::comreset`, over `Device::comreset`.
use Rattle.std.proofs.Common.{◌∙◌}
use Rattle.image.proofs.Calls.{comreset_told}
use Rattle.image.proofs.Image.comreset.Goals as goal

pub returns : goal.returns
returns c = c.with_answer.ensures ∙ search (comreset_told)
