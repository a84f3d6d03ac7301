use Rattle.std.proofs.Common.{◌∙◌}
use Rattle.layout.proofs.Reserved.{header_padded}
use Rattle.layout.proofs.Header.part.Goals as goal

pub returns : goal.returns
returns c = c.whole.ensures ∙ header_padded c.args.o c.args.s.now _ c.requires c.padded.ensures
