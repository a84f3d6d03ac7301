-- What holds of every line, however the input is cut into pieces. Each is a statement; proofs/ has the proof under the same name in lower case.
use Rattle.std.specs.Prelude.{ℕ, ◌+◌, ◌≤◌, ◌<◌, Bool, true, false, not, List, ◌∷◌, ◌++◌, ◌≡◌, eqb, length, take}
use Rattle.slices.specs.Lists.{all}
use Rattle.pieces.specs.Pieces.{nothing, gathered, taken_from}
use Rattle.pieces.specs.declared.Gathered.{Gathered}

-- a piece that is cut in two adds to a line what the whole adds
abbrev pub CutAnywhere : Type 0
CutAnywhere =
    (g : Gathered) (a b : List ℕ) (at : ℕ)
    → ((taken_from g a at).whole ≡ true → taken_from g (a ++ b) at ≡ taken_from g a at)
    × ((taken_from g a at).whole ≡ false → taken_from g (a ++ b) at ≡ taken_from (taken_from g a at).line b (taken_from g a at).at)

abbrev pub no_newline : List ℕ → Bool
no_newline l = all (λ (b : ℕ). not (eqb b 10)) l

-- a line ends at its newline, and what follows is left
abbrev pub EndsAtNewline : Type 0
EndsAtNewline =
    (g : Gathered) (l rest : List ℕ) (at : ℕ) → no_newline l ≡ true
    → taken_from g (l ++ (10 ∷ rest)) at ≡ record { line = gathered g l; at = at + length l + 1; whole = true }

-- a piece without a newline is added whole, and so is the last line
abbrev pub GoesOn : Type 0
GoesOn = (g : Gathered) (l : List ℕ) (at : ℕ) → no_newline l ≡ true → taken_from g l at ≡ record { line = gathered g l; at = at + length l; whole = false }

-- the place where a piece starts only counts
abbrev pub PlaceCounts : Type 0
PlaceCounts =
    (g : Gathered) (l : List ℕ) (at : ℕ)
    → taken_from g l at ≡ record { line = (taken_from g l 0).line; at = at + (taken_from g l 0).at; whole = (taken_from g l 0).whole }

-- a line of at most 200 bytes is kept whole
abbrev pub KeptWhole : Type 0
KeptWhole = (l : List ℕ) → length l ≤ 200 → ((gathered nothing l).len ≡ length l) × (take (length l) (gathered nothing l).bytes ≡ l)

-- of a longer one it is kept that there are more
abbrev pub LongerTold : Type 0
LongerTold = (l : List ℕ) → 200 < length l → (gathered nothing l).len ≡ 201
