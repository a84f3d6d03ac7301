-- What holds of every page's and of all data's text. Each is a statement; proofs/ has the proof under the same name in lower case.
use Rattle.std.specs.Prelude.{ℕ, ◌≤◌, List, length}
use Rattle.dump.specs.Dump.{page_text, data_text}

-- room for every page: 2,048 rows of 65 bytes, and a line of zeros
abbrev pub Enough : Type 0
Enough = (s : List ℕ) → length (page_text s) ≤ 134000

-- and for all data: 2,048 rows, and a line of their number
abbrev pub EnoughForData : Type 0
EnoughForData = (s : List ℕ) → length (data_text s) ≤ 134000
