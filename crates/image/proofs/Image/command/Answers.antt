-- `Image::command`, over `commands::command`.
use Rattle.std.proofs.Common.{◌∙◌}
use Rattle.image.proofs.Calls.{command_told}
use Rattle.image.proofs.Image.command.Goals as goal

pub returns : goal.returns
returns c = c.with_answer.ensures ∙ search (command_told)
