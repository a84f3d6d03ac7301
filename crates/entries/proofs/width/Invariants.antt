use Rattle.std.proofs.Common.{◌≡◌, length}
use Rattle.entries.specs.Entries.{lines_below}
use Rattle.entries.proofs.width.Given as goal

-- the size of the first k lines
abbrev pub invariant-loop-k : goal.invariant-loop-k
invariant-loop-k l = l.size ≡ length (lines_below l.o l.bytes l.k)
