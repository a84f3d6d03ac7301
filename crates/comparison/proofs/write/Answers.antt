use Rattle.std.proofs.Common.{rules}
use borrow.Author.Tests.{not-false}
use Rattle.sheet.proofs.Whole.{all-written, all_counts}
use Rattle.comparison.proofs.Comparison.{compared_puts}
use Rattle.comparison.proofs.write.Goals as goal

pub returns-clause-out_after : goal.returns-clause-out_after
returns-clause-out_after c = search (rules, all-written, compared_puts, not-false)

pub returns-clause-prefix_len : goal.returns-clause-prefix_len
returns-clause-prefix_len c = search (rules, all_counts, compared_puts, not-false)
