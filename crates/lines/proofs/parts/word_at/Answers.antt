-- `lines::parts::word_at`.
use Rattle.std.proofs.Common.{rules}
use Rattle.lines.proofs.Words.{this_word}
use Rattle.lines.proofs.parts.word_at.Goals as goal

pub returns : goal.returns
returns c = search (rules, this_word)
