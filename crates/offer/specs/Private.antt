-- For the promises of private functions: no reader has to believe it. The check, element by element as the code goes (proofs/Check,
-- `walk_checks`: it comes to document 01's rule).
use Rattle.std.specs.Prelude.{ℕ, ◌+◌, ◌^◌, Bool, cond, ◌&&◌, Option, None, Some, List, [], ◌∷◌, leb, ltb}
use Rattle.offer.specs.Check.{shaped, healthy}
use Rattle.offer.specs.declared.Element.{Element}

-- an element may follow an identifier `last` and `total` blocks
abbrev pub may_follow : ℕ → ℕ → Element → Bool
may_follow last total e = ltb last e.id.0 && (shaped e && (healthy e && leb (total + e.blocks) (2 ^ 48)))

abbrev pub walk_from : ℕ → ℕ → List Element → Option ℕ
walk_from last total [] = cond (leb 2 total) (Some total) None
walk_from last total (e ∷ es) = cond (may_follow last total e) (walk_from e.id.0 (total + e.blocks) es) None
