-- `lines::parts::start_of`: `at` is where the word begins that was come to.
use Rattle.std.proofs.Common.{◌≡◌, ◌≤◌, length, drop}
use Rattle.lines.specs.Parts.{from_word}
use Rattle.lines.proofs.parts.start_of.Given as goal

abbrev pub invariant-loop : goal.invariant-loop
invariant-loop l = (drop l.at l.line ≡ from_word l.counter l.line) × (l.at ≤ length l.line)
