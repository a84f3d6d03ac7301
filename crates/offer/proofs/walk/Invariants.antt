-- Going on from the element comes to what the whole walk comes to, and the blocks so far are at most 2^48.
use Rattle.std.proofs.Common.{◌≡◌, ◌≤◌, ◌^◌, drop}
use Rattle.offer.specs.Private.{walk_from}
use Rattle.offer.proofs.walk.Given as goal

abbrev pub invariant-loop-element : goal.invariant-loop-element
invariant-loop-element l = (l.total ≤ 2 ^ 48) × (walk_from l.last l.total (drop l.element-index l.elements) ≡ walk_from 0 0 l.elements)
