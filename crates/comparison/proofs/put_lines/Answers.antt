use Rattle.comparison.proofs.Comparison.{put_end, put_next, found_less}
use Rattle.comparison.proofs.put_lines.Goals as goal

pub loop-hit-smaller : goal.loop-hit-smaller
loop-hit-smaller c = found_less _ _ _ _ _ c.next_of.ensures _ c.in-Some.is

pub loop-hit-preserved : goal.loop-hit-preserved
loop-hit-preserved c =
    put_next _ _ _ _ _ c.next_of.ensures _ c.in-Some.is _ _ _ _ _ c.loop-hit.invariant c.put_line-size.ensures.out_after c.put_line-size.ensures.value

pub returns : goal.returns
returns c = put_end _ _ _ _ _ c.next_of.ensures _ _ _ c.loop-hit.invariant c.in_default.is
