-- `Image::grade`, over `Device::grade`.
use Rattle.std.proofs.Common.{◌∙◌}
use Rattle.image.proofs.Calls.{grade_told}
use Rattle.image.proofs.Image.grade.Goals as goal

pub returns : goal.returns
returns c = c.with_answer.ensures ∙ search (grade_told)
