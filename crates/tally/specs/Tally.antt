-- Request 2026-03: "`cut K of N` where whole descriptors are missing, or `torn K of N` where one was cut through (K whole ones)".
use Rattle.std.specs.Prelude.{ℕ, Bool, cond, List, [], ◌++◌, ltb}
use Rattle.text.specs.Digits.{decimal_of}
use Rattle.text.specs.Text.{ascii}
use Rattle.writing.specs.Writing.{number_line}

-- a word, then "K of N"
abbrev pub count_line : List ℕ → ℕ → ℕ → List ℕ
count_line name whole number = (name ++ decimal_of whole) ++ number_line (ascii " of ") number

-- nothing, where none is missing
abbrev pub tally_line : ℕ → ℕ → Bool → List ℕ
tally_line whole number torn =
    cond torn (count_line (ascii "torn ") whole number) (cond (ltb whole number) (count_line (ascii "cut ") whole number) [])
