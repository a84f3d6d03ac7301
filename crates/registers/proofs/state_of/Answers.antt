-- `registers::state_of`.
use Rattle.std.proofs.Common.{rules}
use Rattle.registers.specs.Registers.{state_of}
use Rattle.registers.proofs.state_of.Goals as goal

pub returns-then-eq : goal.returns-then-eq
unfolding state_of
returns-then-eq c = search rules

pub returns-then-eq-2 : goal.returns-then-eq-2
unfolding state_of
returns-then-eq-2 c = search rules

pub returns-then-eq-3 : goal.returns-then-eq-3
unfolding state_of
returns-then-eq-3 c = search rules

pub returns-else-eq-3 : goal.returns-else-eq-3
unfolding state_of
returns-else-eq-3 c = search rules
