-- Places of a table as built, t: the search goes by the table alone, finds each identifier of an ascending one at its one place, and no
-- other; so a health store at the place of an identifier is a store for that identifier.
use Prim.Native.Nat.{ℕ, ◌≤◌, ◌<◌}
use mathlib.Core.Bool.{Bool, true, false, cond, true≢false}
use mathlib.Core.List.{List}
use mathlib.Core.Path.{◌≡◌, refl, sym, ap, ◌∙◌, subst, subst⁻¹}
use native.Mathlib.Omega.{arith}
use lib.Dec.{eqb}
use lib.ListN.{length, get_or, set}
use lib.Seq.{get_or-set_same, get_or-set_other}
use borrow.Author.Tests.{eqb-true, eqb-false}
use Rattle.std.proofs.Common.{Option, Some, None}
use Rattle.std.specs.Option.{option_map}
use Rattle.cells.proofs.Sights.{found, hit_seen, seen_hit}
use Rattle.cells.specs.Cells.{health_in}
use Rattle.cells.specs.Sights.{see_in, is_there, gone, place_of}
use Rattle.cells.specs.declared.Cells.{Cells}
use Rattle.cells.specs.declared.Seen.{Seen}
use Rattle.cells.specs.declared.Store.TheVariants.{Marked}
use Rattle.device.specs.Record.{health_at, see}
use Rattle.device.specs.declared.Device.{Device}
use Rattle.paper.specs.Elements.{removed_health}
use Rattle.paper.specs.declared.ElementId.{ElementId}
use Rattle.steps.specs.Steps.{marking}
use Rattle.table.proofs.Search.{hits_there, hits_member}
use Rattle.table.specs.Elements.{identifiers, size, identifier_at, ascending}
use Rattle.table.specs.Search.{place, hits, sight}
use Rattle.table.specs.declared.Sight.{Sight}
use Rattle.table.specs.declared.Table.{Table}
use Rattle.history.specs.Runs.{Script, begin, ◌▸◌, after}
use Rattle.history.specs.Starts.{Present}

-- the table stays
pub table_kept : (d : Device) (s : Script) → (after d s).table ≡ d.table
table_kept d begin = refl
table_kept d (s ▸ e) = table_kept d s

-- ## What is seen of a device with this table

-- a sight, with the health in these cells
abbrev in_cells : Cells → Sight → Seen
in_cells c s = record { part = s.part; place = s.place; health = health_in c s.place }

module _ (t : Table) (d : Device) (built : d.table ≡ t) (id : ElementId) where
  -- another device with the table marks it at the place where this one sees it
  pub marks-same : (x : Device) → x.table ≡ t → is_there (see d id) ≡ true → marking (see x id) ≡ Marked (place_of (see d id))
  unfolding see_in
  marks-same x q there =
      subst (λ (u : Table). marking (see_in u x.cells id) ≡ Marked (place_of (see d id))) (built ∙ sym q) (go (sight id.0 d.table) there)
    where
      go : (o : Option Sight) → is_there (option_map (in_cells d.cells) o) ≡ true → marking (option_map (in_cells x.cells) o) ≡ Marked (place_of (option_map (in_cells d.cells) o))
      go None r = absurd (true≢false (sym r))
      go (Some s) r = refl

  -- what is seen is there
  pub hit_there : (s : Seen) → see d id ≡ Some s → (s.place < size t) × (identifier_at t s.place ≡ id.0)
  hit_there s q =
      let seen = seen_hit d.table d.cells id s q in
      subst (λ (u : Table). (s.place < size u) × (identifier_at u s.place ≡ id.0)) built
      (subst (λ (x : Seen). (x.place < size d.table) × (identifier_at d.table x.place ≡ id.0)) seen.1 (hits_there id.0 (identifiers d.table) seen.0))

  pub hit_present : (s : Seen) → see d id ≡ Some s → Present t id.0
  hit_present s q = let w = hit_there s q in (s.place, w.0, w.1)

  pub gone_present : gone (see d id) ≡ true → Present t id.0
  gone_present q = go (see d id) refl q
    where
      go : (x : Option Seen) → see d id ≡ x → gone x ≡ true → Present t id.0
      go None e r = absurd (true≢false (sym r))
      go (Some s) e r = hit_present s e

module _ (t : Table) (asc : ascending 0 (identifiers t) ≡ true) where
  -- two places of one identifier are one
  place_once : (i j : ℕ) → i < size t → j < size t → identifier_at t i ≡ identifier_at t j → i ≡ j
  place_once i j h k q =
      sym (hits_member 0 (identifiers t) i asc h).1 ∙ ap (λ (id : ℕ). place id (identifiers t)) q ∙ (hits_member 0 (identifiers t) j asc k).1

  -- the healths after one was stored where an identifier stands
  pub stored_health : (hs : List ℕ) → size t ≤ length hs → (at v i : ℕ) → at < size t → i < size t
      → get_or (set hs at v) i 0 ≡ cond (eqb (identifier_at t at) (identifier_at t i)) v (get_or hs i 0)
  stored_health hs celled at v i h k = go (eqb (identifier_at t at) (identifier_at t i)) refl
    where
      go : (b : Bool) → eqb (identifier_at t at) (identifier_at t i) ≡ b → get_or (set hs at v) i 0 ≡ cond b v (get_or hs i 0)
      go true q =
          let one : at ≡ i = place_once at i h k (eqb-true _ _ q) in
          rw (sym one) (get_or-set_same hs at v 0 (omega arith))
      go false q = get_or-set_other hs at i v 0 (λ e. eqb-false _ _ q (ap (identifier_at t) (sym e)))

  module _ (d : Device) (built : d.table ≡ t) where
    -- what is there is seen, at its place and with its health
    see-place : (i : ℕ) → i < size t → (s : Seen) × (see d (record { 0 = identifier_at t i }) ≡ Some s) × (s.health ≡ health_at d i)
    see-place i h =
        let id : ElementId = record { 0 = identifier_at t i } in
        let hit = subst⁻¹ (λ (u : Table). (hits id.0 (identifiers u) ≡ true) × (place id.0 (identifiers u) ≡ i)) built (hits_member 0 (identifiers t) i asc h) in
        (found d.table d.cells id, hit_seen d.table d.cells id hit.0, ap (health_at d) hit.1)

    pub present_hit : (id : ElementId) → Present t id.0 → (s : Seen) × (see d id ≡ Some s)
    present_hit id p =
        subst (λ (k : ℕ). (s : Seen) × (see d (record { 0 = k }) ≡ Some s)) p.2 (let w = see-place p.0 p.1 in (w.0, w.1))

    -- an element is gone if the health of its place is FFh
    pub gone-place : (i : ℕ) → i < size t → gone (see d (record { 0 = identifier_at t i })) ≡ removed_health (health_at d i)
    gone-place i h = let w = see-place i h in ap gone w.1 ∙ ap removed_health w.2

    -- where M tells the healths at FFh, and of the table alone, it tells what is gone
    pub gone-told : (M : ℕ → Bool) → ((i : ℕ) → i < size t → removed_health (health_at d i) ≡ M (identifier_at t i)) → (id : ElementId)
        → (M id.0 ≡ true → Present t id.0) → gone (see d id) ≡ M id.0
    gone-told M tells id only = go (M id.0) refl (gone (see d id)) refl
      where
        at : Present t id.0 → gone (see d id) ≡ M id.0
        at p =
            subst (λ (k : ℕ). gone (see d (record { 0 = k })) ≡ M k) p.2 (gone-place p.0 p.1 ∙ tells p.0 p.1)

        go : (m : Bool) → M id.0 ≡ m → (g : Bool) → gone (see d id) ≡ g → gone (see d id) ≡ M id.0
        go true q g r = at (only q)
        go false q true r = at (gone_present t d built id r)
        go false q false r = r ∙ sym q
