-- What several writers store, one after another; and a short text of at most 20 bytes, at the end of 20.
use Rattle.std.specs.Prelude.{ℕ, ◌+◌, ◌-◌, ◌≤◌, List, ◌++◌, ◌≡◌, length, drop, replicate}
use Rattle.slices.specs.Lists.{stored}
use Rattle.writing.specs.declared.Spelling.{Spelling}

-- from d and a place on a text, if it fits there: x is left, and r is the place after it
unfoldable pub Puts : List ℕ → ℕ → List ℕ → List ℕ → ℕ → Type 0
Puts d at text x r = at + length text ≤ length d → (x ≡ stored d at text) × (r ≡ at + length text)

-- after zeros
abbrev pub spelled : List ℕ → Spelling
spelled l = record { bytes = replicate (20 - length l) 0 ++ l; count = length l }

abbrev pub shown : Spelling → List ℕ
shown s = drop (20 - s.count) s.bytes
