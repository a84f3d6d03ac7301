-- A line with a number, and a text that is stored where there is room for the longest of its kind.
use Rattle.std.specs.Prelude.{ℕ, cond, List, ◌++◌, length}
use Rattle.slices.specs.Lists.{fits, stored, ended}
use Rattle.text.specs.Digits.{decimal_of}
use Rattle.text.specs.Text.{ascii}

-- a word and a number in decimal
abbrev pub number_line : List ℕ → ℕ → List ℕ
number_line name n = (name ++ decimal_of n) ++ ascii "\n"

-- b stored over d from a place on, if n bytes are there
abbrev pub stored_in : ℕ → List ℕ → ℕ → List ℕ → List ℕ
stored_in n d at b = cond (fits n at (length d)) (stored d at b) d

-- where it ends then; the place itself if they are not
abbrev pub ended_in : ℕ → List ℕ → ℕ → List ℕ → ℕ
ended_in n d at b = cond (fits n at (length d)) (ended d at b) at
