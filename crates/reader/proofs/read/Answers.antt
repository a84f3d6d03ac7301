-- `reader::read`: a request that is not refused asks for a page, and a page that is as long as it says has the list that it returns.
use Rattle.std.proofs.Common.{arith, sym, ◌∙◌, ◌*◌, ◌-◌, ◌≤◌}
use native.Mathlib.Nat.{min-le_right}
use Rattle.request.proofs.Requests.{accepted}
use Rattle.reader.proofs.read.Goals as goal

pub returned_of-requires : goal.returned_of-requires
returned_of-requires c = (accepted c.args.request (sym c.is_refused.ensures ∙ c.if-is_refused.false)).2

pub check_contents-requires : goal.check_contents-requires
check_contents-requires c =
    let some : 1 ≤ c.args.request.count.0 = (accepted c.args.request (sym c.is_refused.ensures ∙ c.if-is_refused.false)).2 in
    omega (arith, min-le_right c.read-h.result.number (16 * c.args.request.count.0 - 1))
