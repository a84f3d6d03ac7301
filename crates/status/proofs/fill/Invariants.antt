-- The places put down are those of what is asked for of the first i.
use Rattle.status.proofs.Page.{Listing}
use Rattle.status.proofs.fill.Given as goal

abbrev pub invariant-loop-i : goal.invariant-loop-i
invariant-loop-i l = Listing l.ps l.hs l.request l.n l.places l.number l.i
