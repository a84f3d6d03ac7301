-- A flag as a byte, in a record that may hold any: 0 says no, and every other byte yes.
use Rattle.std.specs.Prelude.{ℕ, Bool, not, eqb}

abbrev pub is_on : ℕ → Bool
is_on flag = not (eqb flag 0)
