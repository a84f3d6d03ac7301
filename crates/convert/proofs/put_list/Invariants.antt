-- The first k descriptors are stored behind the header.
use Rattle.convert.proofs.Turned.{PutBefore}
use Rattle.convert.proofs.put_list.Given as goal

abbrev pub invariant-loop-k : goal.invariant-loop-k
invariant-loop-k l = PutBefore l.from l.to l.bytes l.count l.fn.buf l.buf l.k
