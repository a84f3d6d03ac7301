-- An accepted table starts: its device has its elements, each health in the cell of its place, and none at FFh.
use Prim.Native.Nat.{ℕ, zero, suc, ◌-◌, ◌≤◌, ◌<◌}
use mathlib.Core.Bool.{Bool, true, false, cond, or-true, false≢true}
use mathlib.Core.List.{List, [], ◌∷◌, map}
use mathlib.Core.Path.{◌≡◌, refl, sym, ap, ◌∙◌, subst}
use native.Mathlib.Nat.{min-eq_left}
use native.Mathlib.Omega.{arith}
use lib.ListN.{length, get_or, replicate, length-map, length-append, length-take, get_or-append}
use borrow.Author.Tests.{leb-true, ne_eqb}
use Rattle.cells.specs.Cells.{is_set}
use Rattle.device.specs.Record.{health_at}
use Rattle.device.specs.declared.Device.{Device}
use Rattle.making.proofs.EveryMaking.{fresh_order}
use Rattle.making.specs.Making.{fresh, made_of}
use Rattle.offer.proofs.Laws.{good-healthy, good_count}
use Rattle.offer.proofs.Splits.{split_front, built_ids}
use Rattle.offer.specs.Check.{healthy, good}
use Rattle.offer.specs.Elements.{offered, part_of, health_of}
use Rattle.offer.specs.declared.Element.{Element}
use Rattle.offer.specs.declared.Offer.{Offer}
use Rattle.paper.specs.Answers.{number_of}
use Rattle.paper.specs.Elements.{graded_health, removed_health}
use Rattle.paper.specs.Told.{Told, tells, said}
use Rattle.slices.specs.Lists.{all}
use Rattle.table.proofs.Ascending.{both}
use Rattle.table.specs.Elements.{blank_part, size}
use Rattle.history.specs.Starts.{MadeOf, AcceptedStarts}
use Rattle.history.proofs.Places.{gone-told}

graded-all : (es : List Element) → all healthy es ≡ true → (i : ℕ) → i < length es → graded_health (get_or (map health_of es) i 0) ≡ true
graded-all [] q i h = absurd (omega arith)
graded-all (e ∷ es) q zero h = (both (healthy e) (all healthy es) q).0
graded-all (e ∷ es) q (suc i) h = graded-all es (both (healthy e) (all healthy es) q).1 i (omega arith)

module _ (o : Offer) (full : length o.elements ≡ 128) (g : good o.count (offered o) o.limit ≡ true) where
  few : o.count ≤ 128
  few = good_count o.count (offered o) o.limit g

  sizes : size (fresh o).table ≡ length (offered o)
  sizes = ap length (built_ids o full few) ∙ length-map (offered o) (λ (e : Element). e.id.0)

  graded : (i : ℕ) → i < size (fresh o).table → graded_health (health_at (fresh o) i) ≡ true
  graded i h =
      let inside : i < length (map health_of (offered o)) = rw (length-map (offered o) health_of, sym sizes) h in
      rw (get_or-append (map health_of (offered o)) (replicate (128 - o.count) 0) 0 i inside)
      (graded-all (offered o) (good-healthy o.count (offered o) o.limit g) i (rw sizes at h))

  standing : (i : ℕ) → i < size (fresh o).table → removed_health (health_at (fresh o) i) ≡ false
  standing i h =
      ne_eqb (health_at (fresh o) i) 0xFF (λ q. let low : health_at (fresh o) i ≤ 0xCF = leb-true (health_at (fresh o) i) 0xCF (graded i h) in omega arith)

  made_of_lem : MadeOf (offered o) o.limit (fresh o)
  unfolding is_set
  made_of_lem = record {
    startable = record {
      ids = fresh_order o full g;
      celled = rw (sizes, length-append, length-map) (omega arith);
      healths = λ i h. rw (graded i h, or-true);
      begins = refl;
    };
    parts = split_front o full few part_of blank_part;
    healths = split_front o full few health_of 0;
    count = sym (rw (length-take, full) (min-eq_left few));
    limit = refl;
    rests = refl;
    native_max = refl;
    accessible_max = refl;
    first = refl;
    unmarked = λ id. gone-told (fresh o).table (fresh_order o full g) (fresh o) refl (λ _. false) standing (record { 0 = id }) (λ q. absurd (false≢true q));
    sound = refl;
  }

pub accepted_starts : AcceptedStarts
unfolding made_of
accepted_starts there o a d full said_so = go (good o.count (offered o) o.limit) refl said_so
  where
    go : (b : Bool) → good o.count (offered o) o.limit ≡ b → said a d ≡ cond b (tells 0 (fresh o)) (tells 8 there) → (number_of a ≡ 0 → (b ≡ true) × MadeOf (offered o) o.limit d) × (b ≡ true → number_of a ≡ 0)
    go true g q = (λ _. (refl, subst (MadeOf (offered o) o.limit) (sym (ap (λ (u : Told Device). u.state) q)) (made_of_lem o full g)), λ _. ap (λ (u : Told Device). u.number) q)
    go false g q =
        (λ z. absurd (let e : number_of a ≡ 8 = ap (λ (u : Told Device). u.number) q in omega arith), λ z. absurd (false≢true z))
