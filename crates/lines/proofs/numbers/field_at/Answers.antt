-- `lines::numbers::field_at`.
use Rattle.std.proofs.Common.{◌∙◌, ap}
use Rattle.lines.specs.Numbers.{field_of, field_at}
use Rattle.lines.proofs.Hexadecimal.{field_most}
use Rattle.lines.proofs.numbers.field_at.Goals as goal

pub returns-clause-value : goal.returns-clause-value
unfolding field_at
returns-clause-value c = c.number.ensures ∙ ap (field_of c.args.most) c.word_at.ensures

pub returns-clause-most : goal.returns-clause-most
unfolding field_at
returns-clause-most c = rw (c.number.ensures, c.word_at.ensures) (field_most c.args.line.now c.args.k c.args.most)
