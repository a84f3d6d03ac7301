-- `offences::past_plain`: each of a pair takes the sweep a descriptor further.
use Rattle.std.proofs.Common.{arith, refl}
use Rattle.offences.proofs.Checks.{swept_next}
use Rattle.offences.proofs.past_plain.Goals as goal

pub returns-then-not-is_plain-2 : goal.returns-then-not-is_plain-2
returns-then-not-is_plain-2 c = (
  omega arith,
  swept_next c.args.o c.args.page.now c.args.request c.args.count _ _ c.loop-at.invariant.1 (omega arith) c.whole_at-d.result c.whole_at-d.ensures
      _ refl (c.is_plain.ensures c.if-not-is_plain.false _),
)

pub loop-at-preserved : goal.loop-at-preserved
loop-at-preserved c =
    let half = swept_next c.args.o c.args.page.now c.args.request c.args.count _ _ c.loop-at.invariant.1 (omega arith) c.whole_at-d.result c.whole_at-d.ensures
    _ refl (c.is_plain.ensures c.if-not-is_plain.false _) in (
      omega arith,
      swept_next c.args.o c.args.page.now c.args.request c.args.count _ _ half (omega arith) c.whole_at-e.result c.whole_at-e.ensures
          _ refl (c.is_plain-in-loop-at.ensures c.if-not-is_plain-2.false _),
    )
