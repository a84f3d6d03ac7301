use Rattle.std.proofs.Common.{◌∙◌}
use Rattle.layout.proofs.Reserved.{descriptor_padded}
use Rattle.layout.proofs.Descriptor.part.Goals as goal

pub returns : goal.returns
returns c = c.whole.ensures ∙ descriptor_padded c.args.o c.args.s.now _ c.requires c.padded.ensures
