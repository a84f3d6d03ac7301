-- `offences::check_list`: the end, an offence, and a clean descriptor more.
use Rattle.std.proofs.Common.{arith}
use Rattle.offences.proofs.Checks.{swept_all, swept_found, swept_next}
use Rattle.offences.proofs.check_list.Goals as goal

pub returns-then-end-at : goal.returns-then-end-at
returns-then-end-at c = swept_all c.args.o c.args.page.now c.args.request c.args.count _ _ c.past_plain-next.ensures.1 (omega arith)

pub returns-in_err-judge : goal.returns-in_err-judge
returns-in_err-judge c =
    let found = swept_found c.args.o c.args.page.now c.args.request c.args.count _ _ c.past_plain-next.ensures.1 (omega arith) c.read_at-d.result c.read_at-d.ensures
    c.judge.result c.judge.ensures c.in_err-judge.field-0.0 c.in_err-judge.was in
    grind (arith, found)

pub loop-request-preserved : goal.loop-request-preserved
loop-request-preserved c =
    swept_next c.args.o c.args.page.now c.args.request c.args.count _ _ c.past_plain-next.ensures.1 (omega arith) c.read_at-d.result c.read_at-d.ensures
    c.judge.result c.judge.ensures c.in_ok-judge.was
