use Rattle.std.proofs.Common.{◌+◌, ◌-◌, ◌∙◌, drop, arith}
use Rattle.layout.proofs.Reserved.{part_placed}
use Rattle.layout.proofs.Descriptor.read_at.Goals as goal

pub returns : goal.returns
returns c = c.read.ensures ∙ part_placed c.args.o (drop c.args.at c.args.s.now) (c.args.at + 32 - c.args.at) (omega arith)
