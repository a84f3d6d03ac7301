-- Document 01, "The reader", last paragraph: "a line for each descriptor" of a list, in either byte order (request 2026-03: "the same lines").
use Rattle.std.specs.Prelude.{ℕ, zero, suc, cond, List, [], ◌++◌, leb, length}
use Rattle.offences.specs.Checks.{base_of, descriptor_at}
use Rattle.rows.specs.Rows.{descriptor_line}
use Rattle.words.specs.declared.Order.{Order}

-- the lines of the first n descriptors
abbrev pub lines_below : Order → List ℕ → ℕ → List ℕ
lines_below o s zero = []
lines_below o s (suc n) = lines_below o s n ++ descriptor_line (descriptor_at o s n)

-- if all of these are there to their last byte; else none
abbrev pub lines_of : Order → List ℕ → ℕ → List ℕ
lines_of o s n = cond (leb (base_of n) (length s)) (lines_below o s n) []
