-- Ascending identifiers, of the one at a place.
use Prim.Native.Nat.{ℕ, zero, suc, ◌<◌}
use mathlib.Core.Bool.{true}
use mathlib.Core.List.{List, [], ◌∷◌}
use mathlib.Core.Path.{◌≡◌}
use native.Mathlib.Nat.{not-suc-le-zero, le_of_suc-le-suc}
use lib.ListN.{length, get_or}
use Rattle.table.proofs.Ascending.{ascending_both}
use Rattle.table.specs.Elements.{ascending}

-- the identifier before place k
abbrev pub before : ℕ → List ℕ → ℕ → ℕ
before low l zero = low
before low l (suc k) = get_or l k 0

pub ascending_at : (low : ℕ) (l : List ℕ) (k : ℕ) → k < length l → ascending low l ≡ true → before low l k < get_or l k 0
ascending_at low [] k h e = absurd (not-suc-le-zero h)
ascending_at low (x ∷ xs) zero h e = (ascending_both low x xs e).0
ascending_at low (x ∷ xs) (suc zero) h e = ascending_at x xs 0 (le_of_suc-le-suc h) (ascending_both low x xs e).1
ascending_at low (x ∷ xs) (suc (suc k)) h e = ascending_at x xs (suc k) (le_of_suc-le-suc h) (ascending_both low x xs e).1
