-- docs/BENCH.md: "A line ends at a newline (the last one may lack it)": a line put together from pieces of input.
use Rattle.std.specs.Prelude.{ℕ, ◌+◌, Bool, true, false, cond, List, [], ◌∷◌, eqb, ltb, length, set, replicate}
use Rattle.pieces.specs.declared.Gathered.{Gathered}
use Rattle.pieces.specs.declared.Taken.{Taken}

-- "A line of more than 200 bytes, the newline not counted"
abbrev pub is_long : List ℕ → Bool
is_long l = ltb 200 (length l)

abbrev pub nothing : Gathered
nothing = record { bytes = replicate 200 0; len = 0 }

-- one byte more; past 200 only that there are more is kept
abbrev pub pushed : Gathered → ℕ → Gathered
pushed g b = cond (ltb g.len 200) (record { bytes = set g.bytes g.len b; len = g.len + 1 }) (record { bytes = g.bytes; len = 201 })

-- a line, after what was gathered
unfoldable pub gathered : Gathered → List ℕ → Gathered
gathered g [] = g
gathered g (b ∷ l) = gathered (pushed g b) l

-- what a piece adds to a line, up to a newline (10) or the piece's end; `at` counts the bytes
unfoldable pub taken_from : Gathered → List ℕ → ℕ → Taken
taken_from g [] at = record { line = g; at = at; whole = false }
taken_from g (b ∷ l) at = cond (eqb b 10) (record { line = g; at = at + 1; whole = true }) (taken_from (pushed g b) l (at + 1))
