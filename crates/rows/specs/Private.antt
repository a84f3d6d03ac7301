-- Parts of an element's line.
use Rattle.std.specs.Prelude.{ℕ, List, ◌++◌}
use Rattle.text.specs.Digits.{digits}
use Rattle.text.specs.Text.{ascii}
use Rattle.rows.specs.Rows.{capacity_of}

-- type and health, each with the space after it
abbrev pub grade_of : ℕ → ℕ → List ℕ
grade_of kind health = digits 16 2 kind ++ ascii " " ++ digits 16 2 health ++ ascii " "

-- an element's values, of the numbers that they tell
abbrev pub values_for : ℕ → ℕ → ℕ → List ℕ
values_for kind health capacity = grade_of kind health ++ capacity_of capacity

-- an identifier and the space after it
abbrev pub head_of : ℕ → List ℕ
head_of id = digits 16 8 id ++ ascii " "
