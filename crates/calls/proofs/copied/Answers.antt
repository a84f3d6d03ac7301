-- `calls::copied`.
use Prim.Native.Nat.{◌<◌}
use native.Mathlib.Nat.{min-le_left, min-le_right}
use Rattle.std.proofs.Common.{◌≡◌, ◌∙◌, ap, length, set, get_or, arith}
use Rattle.datum.proofs.SoFar.{held, held_next}
use Rattle.offer.specs.Elements.{blank}
use Rattle.calls.proofs.Lists.{all_held}
use Rattle.calls.proofs.copied.Goals as goal

pub loop-i-preserved : goal.loop-i-preserved
loop-i-preserved c =
    let is = c.loop-i.invariant in
    let here : c.loop-i.i < 128 = omega (arith, is.0, c.loop-i-test.true, min-le_right (length c.args.list.now) 128) in
    let there : c.loop-i.i < length c.args.list.now = omega (arith, is.0, c.loop-i-test.true, min-le_left (length c.args.list.now) 128) in
    (is.0, ap (λ xs. set xs c.loop-i.i (get_or c.args.list.now c.loop-i.i blank)) is.1 ∙ held_next 128 blank c.args.list.now c.loop-i.i here there)

pub returns : goal.returns
returns c =
    let is = c.loop-i.invariant in
    let all : c.loop-i.i ≡ c.bounded-n.result = omega (arith, c.loop-i-test.false, c.loop-i.auto.i-end) in
    is.1 ∙ ap (held 128 blank c.args.list.now) all ∙ all_held c.args.list.now c.bounded-n.result is.0
