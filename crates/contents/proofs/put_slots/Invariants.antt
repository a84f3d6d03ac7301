-- The first k lines are put, and `at` is the place after them.
use Rattle.writing.specs.Private.{Puts}
use Rattle.contents.specs.Contents.{slots_below}
use Rattle.contents.specs.Private.{slot_at}
use Rattle.contents.proofs.put_slots.Given as goal

abbrev pub invariant-loop-k : goal.invariant-loop-k
invariant-loop-k l = Puts l.fn.out l.from (slots_below (slot_at l.o l.bytes) l.k) l.out l.at
