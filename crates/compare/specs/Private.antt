-- For the promises of private functions: no reader has to believe it. How the pages meet at a cursor, by what stands there.
use Rattle.std.specs.Prelude.{ℕ, ◌+◌, ◌*◌, ◌^◌, ◌≤◌, ◌<◌, min, Bool, cond, ◌&&◌, List, eqb, leb, ltb, length, Option, Some, None}
use Rattle.layout.specs.declared.Descriptor.{Descriptor}
use Rattle.paper.specs.declared.ElementId.{ElementId}
use Rattle.compare.specs.Differences.{alike}
use Rattle.compare.specs.Walk.{found_by}
use Rattle.compare.specs.declared.Cursor.{Cursor}
use Rattle.compare.specs.declared.Hit.{Hit}

-- whether both pages have a descriptor at the cursor
abbrev pub is_inside : Cursor → Cursor → Bool
is_inside last c = ltb c.older last.older && ltb c.newer last.newer

abbrev pub agree_by : Descriptor → Descriptor → ElementId → Bool
agree_by d e end = eqb d.id.0 e.id.0 && (leb d.id.0 end.0 && alike d e)

-- by the keys there
unfoldable pub step_by : ℕ → ℕ → ElementId → Cursor → Option Hit
step_by a b end c = cond (ltb end.0 (min a b)) None (Some (found_by a b c))

-- the n pairs of places from a cursor on lie inside, and after them there is a place
pub record Both (last c : Cursor) (n : ℕ) : Type 0 where
  pub inside : (k : ℕ) → k < n → (c.older + k < last.older) × (c.newer + k < last.newer)
  pub older_on : c.older + n < 2 ^ 32
  pub newer_on : c.newer + n < 2 ^ 32

-- and their descriptors are there
pub record Pairs (s t : List ℕ) (last c : Cursor) (n : ℕ) : Type 0 where
  pub both : Both last c n
  pub there : (k : ℕ) → k < n → (64 + 32 * (c.older + k) ≤ length s) × (64 + 32 * (c.newer + k) ≤ length t)
