-- `lines::numbers::number`: the bytes up to here are digits of the value.
use Rattle.std.proofs.Common.{◌≡◌, ◌≤◌, length}
use Rattle.lines.proofs.Hexadecimal.{Read}
use Rattle.lines.proofs.numbers.number.Given as goal

abbrev pub invariant-loop-c : goal.invariant-loop-c
invariant-loop-c l = Read l.most l.word l.value l.c-index × (length l.word ≤ 16) × (length l.word ≡ 0 → ⊥)
