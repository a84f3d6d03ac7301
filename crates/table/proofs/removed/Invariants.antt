-- The number of those that the loop has passed, and of those behind them, is the whole number.
use Rattle.std.proofs.Common.{◌≡◌, ◌+◌, ◌≤◌, length, drop}
use Rattle.table.specs.Elements.{removed_count}
use Rattle.table.proofs.removed.Given as goal

abbrev pub invariant-loop-health : goal.invariant-loop-health
invariant-loop-health l =
    record {
      bound : l.number ≤ l.health-index;
      few : length l.live ≤ 128;
      so : l.number + removed_count (drop l.health-index l.live) ≡ removed_count l.live;
    }
