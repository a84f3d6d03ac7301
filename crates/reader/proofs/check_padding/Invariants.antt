-- The first i bytes are 0.
use Rattle.std.proofs.Common.{◌≡◌, Ok}
use Rattle.offences.specs.First.{first_below}
use Rattle.reader.specs.Page.{padding_at}
use Rattle.reader.proofs.check_padding.Given as goal

abbrev pub invariant-loop-i : goal.invariant-loop-i
invariant-loop-i l = first_below l.i (padding_at l.page l.from) ≡ Ok tt
