-- `Image::media_error`, over `Device::media_error`.
use Rattle.std.proofs.Common.{◌∙◌}
use Rattle.image.proofs.Calls.{error_told}
use Rattle.image.proofs.Image.media_error.Goals as goal

pub returns : goal.returns
returns c = c.with_answer.ensures ∙ search (error_told)
