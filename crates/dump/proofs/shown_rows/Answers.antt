use Rattle.std.proofs.Common.{◌≡◌, arith, rules}
use borrow.Author.Tests.{not-true, not-false}
use Rattle.dump.specs.Dump.{rows_shown}
use Rattle.dump.proofs.Dump.{shown_here, shown_less, shown_none}
use Rattle.dump.proofs.shown_rows.Goals as goal

pub returns-then-not-is_zero : goal.returns-then-not-is_zero
returns-then-not-is_zero c =
    let here : c.loop-k.k ≡ rows_shown c.args.page.now c.args.n =
    shown_here c.args.page.now c.args.n c.loop-k.k c.loop-k.invariant (search rules) c.tail.result.now c.tail.ensures c.is_zero.result c.is_zero.ensures
    (search (not-true, rules)) in
    (omega (arith, here), omega arith)

pub loop-k-preserved : goal.loop-k-preserved
loop-k-preserved c =
    shown_less c.args.page.now c.args.n c.loop-k.k c.loop-k.invariant (search rules) c.tail.result.now c.tail.ensures c.is_zero.result c.is_zero.ensures
    (search (not-false, rules))

pub returns : goal.returns
returns c =
    let all : c.loop-k.k ≡ rows_shown c.args.page.now c.args.n = shown_none c.args.page.now c.args.n c.loop-k.k c.loop-k.invariant (search rules) in
    (omega (arith, all), omega arith)
