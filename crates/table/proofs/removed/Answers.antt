-- `table::removed`: all are counted.
use Rattle.std.proofs.Common.{◌≡◌, length, ap, ◌∙◌, rules}
use Rattle.table.specs.Elements.{removed_count}
use Rattle.table.proofs.Arrays.{taken}
use Rattle.table.proofs.Counts.{tally_end}
use Rattle.table.proofs.removed.Goals as goal

pub returns : goal.returns
returns c =
    let full : length c.args.healths ≡ 128 = search rules in
    let all = tally_end _ _ _ c.loop-health.invariant.so c.loop-health-test.false in
    all ∙ ap removed_count (taken c.args.healths c.args.count c.bounded.result full c.bounded.ensures)
