-- Document 01, "The reader", last paragraph, and request 2026-03: the text of a list that was taken.
use Rattle.std.specs.Prelude.{ℕ, Bool, List, ◌++◌}
use Rattle.entries.specs.Entries.{lines_of}
use Rattle.layout.specs.declared.Header.{Header}
use Rattle.rows.specs.Rows.{header_line}
use Rattle.tally.specs.Tally.{tally_line}
use Rattle.words.specs.declared.Order.{Order}

-- "one header and a line for each descriptor" of so many that are there whole; then what is missing of N
unfoldable pub sheet_of : Order → List ℕ → Header → ℕ → ℕ → Bool → List ℕ
sheet_of o s h whole number torn = header_line h ++ lines_of o s whole ++ tally_line whole number torn
