-- The descriptors of the first k stand behind the header, and all else is as it was.
use Rattle.std.proofs.Common.{◌≡◌, take}
use Rattle.layout.specs.Bytes.{descriptor_bytes}
use Rattle.slices.specs.Lists.{flat, stored}
use Rattle.words.specs.declared.Order.TheVariants.{Little}
use Rattle.status.specs.Private.{shown_there}
use Rattle.status.proofs.put_list.Given as goal

abbrev pub invariant-loop-k : goal.invariant-loop-k
invariant-loop-k l = l.buf ≡ stored l.fn.buf 32 (flat (descriptor_bytes Little) (take l.k (shown_there l.ps l.hs l.places l.returned)))
