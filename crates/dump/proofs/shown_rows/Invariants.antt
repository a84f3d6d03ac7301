use Rattle.std.proofs.Common.{◌≡◌}
use Rattle.dump.specs.Dump.{rows_shown}
use Rattle.dump.proofs.shown_rows.Given as goal

-- the rows from k on are zero
abbrev pub invariant-loop-k : goal.invariant-loop-k
invariant-loop-k l = rows_shown l.page l.k ≡ rows_shown l.page l.n
