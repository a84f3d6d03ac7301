-- `pieces::Gathered::take`.
use Rattle.std.proofs.Common.{◌≡◌, rules, arith}
use Rattle.pieces.proofs.Gathering.{taken_newline, taken_more, taken_end}
use Rattle.pieces.proofs.Gathered.take.Goals as goal

pub returns-then-piece-at-eq10 : goal.returns-then-piece-at-eq10
returns-then-piece-at-eq10 c = taken_newline _ _ _ _ _ c.loop-at.invariant.0 (search rules) c.if-piece-at-eq10.true

pub loop-at-preserved : goal.loop-at-preserved
loop-at-preserved c = (taken_more c.args.piece.now _ _ _ c.loop-at.at c.loop-at.invariant.0 (search rules) c.if-piece-at-eq10.false _ c.push.ensures, omega arith)

pub returns : goal.returns
returns c =
    let all : c.loop-at.at ≡ c.max.result = omega (arith, c.max.ensures) in
    rw (← all) (taken_end _ _ _ _ _ c.loop-at.invariant.0 (omega arith))
