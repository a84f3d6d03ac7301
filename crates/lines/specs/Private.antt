-- For the promises of private functions: no reader has to believe it.
use Rattle.std.specs.Prelude.{ℕ, Bool, true, false, cond, Option, Some, None}
use Rattle.text.specs.Digits.{digit_of}
use Rattle.lines.specs.Numbers.{is_digit}
use Rattle.lines.specs.Parts.{is_space, is_other}

-- one test for both that a search of a line goes by
abbrev pub space_or : Bool → ℕ → Bool
space_or true = is_space
space_or false = is_other

abbrev pub digit_at : ℕ → Option ℕ
digit_at c = cond (is_digit c) (Some (digit_of c)) None
