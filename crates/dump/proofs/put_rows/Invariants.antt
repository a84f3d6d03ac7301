use Rattle.writing.specs.Private.{Puts}
use Rattle.dump.specs.Dump.{rows_below}
use Rattle.dump.proofs.put_rows.Given as goal

-- the first k rows are put, and `end` is the place after them
abbrev pub invariant-loop-k : goal.invariant-loop-k
invariant-loop-k l = Puts l.initial.out l.at (rows_below l.page l.k) l.out l.end
