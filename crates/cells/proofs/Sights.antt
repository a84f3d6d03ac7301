-- What the search sees: an element where the table's search hits, and then the one at the place where it stops.
use mathlib.Core.Bool.{Bool, true, false, cond}
use mathlib.Core.Path.{◌≡◌, refl}
use lib.ListN.{get_or}
use Rattle.std.proofs.Common.{Some, None, Ok, Err}
use Rattle.std.proofs.lemmas.Option.{same_Some, none-some}
use Rattle.std.specs.Option.{option_map}
use Rattle.std.specs.Result.{result_ok}
use Rattle.paper.specs.declared.ElementId.{ElementId}
use Rattle.table.specs.Elements.{live, blank_part, identifiers}
use Rattle.table.specs.Search.{place, hits, sought_in, sight_in}
use Rattle.table.specs.declared.Sight.{Sight}
use Rattle.table.specs.declared.Table.{Table}
use Rattle.cells.specs.Cells.{health_in}
use Rattle.cells.specs.Sights.{seen_at, seen, look_in, see_in}
use Rattle.cells.specs.declared.Cells.{Cells}
use Rattle.cells.specs.declared.Seen.{Seen}

module _ (t : Table) (c : Cells) (id : ElementId) where
  abbrev at : Sight
  at = record { part = get_or (live t) (place id.0 (identifiers t)) blank_part; place = place id.0 (identifiers t) }

  abbrev pub found : Seen
  found = record { part = at.part; place = at.place; health = health_in c at.place }

  pub hit_seen : hits id.0 (identifiers t) ≡ true → see_in t c id ≡ Some found
  unfolding see_in sight_in
  hit_seen q = rw q

  pub seen_hit : (s : Seen) → see_in t c id ≡ Some s → (hits id.0 (identifiers t) ≡ true) × (found ≡ s)
  unfolding see_in sight_in
  seen_hit s e = go (hits id.0 (identifiers t)) refl e
    where
      go : (b : Bool) → hits id.0 (identifiers t) ≡ b
          → option_map (λ (x : Sight). record { part = x.part; place = x.place; health = health_in c x.place }) (cond b (Some at) None) ≡ Some s
          → (hits id.0 (identifiers t) ≡ true) × (found ≡ s)
      go true q r = (q, same_Some found s r)
      go false q r = absurd (none-some s r)

  -- what is told as a hit
  pub told_hit : result_ok (look_in t c id) ≡ see_in t c id
  unfolding look_in see_in sought_in sight_in
  told_hit = go (hits id.0 (identifiers t))
    where
      go : (b : Bool) → result_ok (seen c (cond b (Ok at) (Err at))) ≡ option_map (seen_at c) (cond b (Some at) None)
      go true = refl
      go false = refl
