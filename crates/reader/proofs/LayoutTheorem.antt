-- The layout theorem: the reader takes exactly the pages that keep each rule, and refuses any other at the first that is broken.
use Prim.Native.Nat.{ℕ, ◌+◌, ◌-◌, ◌*◌, ◌≤◌, ◌<◌}
use mathlib.Core.Bool.{Bool, true, false, not, ◌&&◌, ◌||◌, or-true, false≢true}
use mathlib.Core.List.{List, ◌∷◌, ◌++◌}
use mathlib.Core.Logic.{◌⊎◌, inl, inr, ⊎_elim}
use mathlib.Core.Path.{◌≡◌, refl, sym, ap, ◌∙◌}
use native.Mathlib.Omega.{arith}
use lib.Dec.{eqb, leb, ltb}
use lib.ListN.{length, get_or}
use borrow.Author.Tests.{eq-eqb, ne_eqb, le-leb, lt-ltb, eqb-true, eqb-false, leb-true, ltb-true, not-true}
use Rattle.layout.specs.Bytes.{header_in, returned_of}
use Rattle.layout.specs.declared.Descriptor.{Descriptor}
use Rattle.layout.specs.declared.Header.{Header}
use Rattle.offences.specs.Checks.{base_of, descriptor_at, last_before, in_turn, earned, check_of, offence_at}
use Rattle.std.proofs.Common.{Ok, Err, Result}
use Rattle.std.specs.Prelude.{⊤}
use Rattle.offences.specs.First.{unless, ◌or_else◌, first_below}
use Rattle.offences.specs.declared.Offence.{Offence}
use Rattle.paper.specs.Elements.{storage_type, removed_health, slow, graded_health}
use Rattle.paper.specs.Told.{Told, tells}
use Rattle.request.proofs.Requests.{accepted, not-refused}
use Rattle.request.proofs.ReservedBits.{unset_exactly}
use Rattle.request.specs.Requests.{filter_of, report_type_of, pages_of, start_of, refused, takes_id, takes_type, in_filter, takes_health}
use Rattle.request.specs.declared.Request.{Request}
use Rattle.words.specs.declared.Order.{Order}
use Rattle.reader.specs.Judgement.{Values, header, place, answer_of, read_of}
use Rattle.reader.specs.Layout.{Rule, rule, below, Asked, InFilter, descriptor_rules, rules_at, padding_rules, page_rules}
use Rattle.reader.specs.Page.{padding_at, page_offence}
use Rattle.reader.specs.Promises.{TakesExactly, RefusesExactly}
use Rattle.reader.proofs.Rules.{Decides, one, join, next, all-below, clean_0, at_9, takes, refuses}

-- ## Each test and its rule

pub and_both : (a b : Bool) → (a && b) ≡ true → (a ≡ true) × (b ≡ true)
and_both true b e = (refl, e)
and_both false b e = absurd (false≢true e)

or_either : (a b : Bool) → (a || b) ≡ true → (a ≡ true) ⊎ (b ≡ true)
or_either true b e = inl refl
or_either false b e = inr e

-- "if the first then the second", tested
implied : (a b : Bool) → (not a || b) ≡ true → a ≡ true → b ≡ true
implied true b e y = e
implied false b e y = absurd (false≢true y)

implies : (a b : Bool) → (a ≡ true → b ≡ true) → (not a || b) ≡ true
implies true b f = f refl
implies false b f = refl

pub asked_to : (q : Request) → refused q ≡ false → Asked q
asked_to q e =
    let (f, r, p, none) = accepted q e in
    (f, r, p, (unset_exactly q).0 none)

asked_from : (q : Request) → Asked q → refused q ≡ false
asked_from q (f, r, p, alone) = not-refused q f r p ((unset_exactly q).1 alone)

module _ (q : Request) (last id : ℕ) where
  turn_to : in_turn q last id ≡ true → (1 ≤ id) × (start_of q ≤ id) × (last < id)
  turn_to e =
      let a = and_both (not (eqb id 0)) (takes_id q id && ltb last id) e in
      let b = and_both (takes_id q id) (ltb last id) a.1 in
      let some = eqb-false id 0 (not-true _ a.0) in
      (omega (arith, some), leb-true _ _ b.0, ltb-true _ _ b.1)

  turn_from : (1 ≤ id) × (start_of q ≤ id) × (last < id) → in_turn q last id ≡ true
  turn_from (some, from, after) = rw (ne_eqb id 0 (omega arith), le-leb (start_of q) id from, lt-ltb last id after)

module _ (d : Descriptor) where
  earned_to : earned d ≡ true → d.restorable ≡ true → d.health ≡ 0xFF
  earned_to e y = eqb-true _ _ (implied d.restorable (eqb d.health 0xFF) e y)

  earned_from : (d.restorable ≡ true → d.health ≡ 0xFF) → earned d ≡ true
  earned_from f = implies d.restorable (eqb d.health 0xFF) (λ y. eq-eqb _ _ (f y))

pub type_exactly : (r kind : ℕ) → (takes_type r kind ≡ true → r ≡ 1 → kind ≡ 1) × ((r ≡ 1 → kind ≡ 1) → takes_type r kind ≡ true)
type_exactly r kind = (
  λ e y. eqb-true _ _ (implied (eqb r 1) (storage_type kind) e (eq-eqb _ _ y)),
  λ f. implies (eqb r 1) (storage_type kind) (λ y. eq-eqb _ _ (f (eqb-true _ _ y))),
)

filter_to : (h : ℕ) → in_filter h ≡ true → InFilter h
filter_to h e =
    ⊎_elim
    (λ x. let b = and_both (leb 0x65 h) (graded_health h) x in inl (leb-true _ _ b.0, leb-true _ _ b.1))
    (λ x. inr (eqb-true _ _ x))
    (or_either (slow h) (removed_health h) e)

filter_from : (h : ℕ) → InFilter h → in_filter h ≡ true
filter_from h (inl (low, high)) = rw (le-leb 0x65 h low, le-leb h 0xCF high)
filter_from h (inr e) = rw (eq-eqb h 0xFF e, or-true)

pub health_exactly : (f h : ℕ) → (takes_health f h ≡ true → f ≡ 1 → InFilter h) × ((f ≡ 1 → InFilter h) → takes_health f h ≡ true)
unfolding takes_health
health_exactly f h = (
  λ e y. filter_to h (implied (eqb f 1) (in_filter h) e (eq-eqb _ _ y)),
  λ g. implies (eqb f 1) (in_filter h) (λ y. filter_from h (g (eqb-true _ _ y))),
)

-- ## The checks decide the rules

descriptor_decides : (q : Request) (last base : ℕ) (d : Descriptor) → Decides (check_of q last base d) (descriptor_rules q last base d)
descriptor_decides q last base d =
    let type = type_exactly (report_type_of q) d.kind in
    let health = health_exactly (filter_of q) d.health in
    next (in_turn q last d.id.0) (rule (base + 4) _) (turn_to q last d.id.0) (turn_from q last d.id.0) _ _
    (next (earned d) (rule (base + 13) _) (earned_to d) (earned_from d) _ _
    (next (takes_type (report_type_of q) d.kind) (rule (base + 14) _) type.0 type.1 _ _
    (one (takes_health (filter_of q) d.health) (rule (base + 15) _) health.0 health.1)))

pub next_same : (a b p : ℕ) (c : Result ⊤ Offence) (rs : List Rule) → Decides c rs → Decides (unless (eqb a b) p or_else c) (rule p (a ≡ b) ∷ rs)
next_same a b p = next (eqb a b) (rule p (a ≡ b)) (eqb-true a b) (eq-eqb a b)

module _ (o : Order) (s : List ℕ) (q : Request) where
  pub list_decides : (n : ℕ) → Decides (first_below n (offence_at o s q)) (below n (rules_at o s q))
  list_decides n = all-below n (offence_at o s q) (rules_at o s q) (λ k. descriptor_decides q (last_before o s k) (base_of k) (descriptor_at o s k))

  padding_decides : (n from : ℕ) → Decides (first_below n (padding_at s from)) (below n (padding_rules s from))
  padding_decides n from =
      all-below n (padding_at s from) (padding_rules s from)
      (λ i. one (eqb (get_or s (from + i) 0) 0) (rule (from + i) (get_or s (from + i) 0 ≡ 0)) (eqb-true _ _) (eq-eqb _ _))

  page_decides : Decides (page_offence o s q) (page_rules o s q)
  page_decides =
      let n = (header_in o s).returned in
      let list : Result ⊤ Offence = first_below n (offence_at o s q) in
      let padding : Result ⊤ Offence = first_below (length s - base_of n) (padding_at s (base_of n)) in
      let rest : List Rule = below n (rules_at o s q) ++ below (length s - base_of n) (padding_rules s (base_of n)) in
      next (not (refused q)) (rule 0 (Asked q)) (λ e. asked_to q (not-true _ e)) (λ a. ap not (asked_from q a)) _ _
      (next_same (length s) (512 * pages_of q) 0 _ _
      (next_same n (returned_of (header_in o s).number (pages_of q)) 4 (list or_else padding) rest
      (join list padding _ _ (list_decides n) (padding_decides (length s - base_of n) (base_of n)))))

-- ## The theorem

placed : Values → ℕ
placed (header h) = 0
placed (place p) = p

module _ (o : Order) (s : List ℕ) (q : Request) where
  abbrev answered : Result ⊤ Offence → Told Values
  answered a = answer_of a (header_in o s)

pub takes_exactly : TakesExactly
takes_exactly o s q = takes (answered o s q) place refl (λ p. refl) (page_offence o s q) (page_rules o s q) (page_decides o s q)

pub refuses_exactly : RefusesExactly
unfolding placed
refuses_exactly o s q = refuses (answered o s q) place refl (λ p. refl) (page_offence o s q) (page_rules o s q) (page_decides o s q) placed (λ p. refl)

-- ## What was heard tells the offence

given : Header → Values → Header
given g (header h) = h
given g (place p) = g

module _ (o : Order) (s : List ℕ) (q : Request) where
  -- a header goes with 0, and is the page's
  pub heard_clean : (h : Header) → tells 0 (header h) ≡ read_of o s q → (page_offence o s q ≡ Ok tt) × (h ≡ header_in o s)
  unfolding given
  heard_clean h e =
      let clean : page_offence o s q ≡ Ok tt = clean_0 (answered o s q) place refl (λ p. refl) (page_offence o s q) (ap (λ (t : Told Values). t.number) (sym e)) in
      (clean, ap (λ (t : Told Values). given h t.state) (e ∙ ap (answered o s q) clean))

  pub heard_at : (p : ℕ) → tells 9 (place p) ≡ read_of o s q → page_offence o s q ≡ Err (record { 0 = p })
  unfolding placed
  heard_at p e = at_9 (answered o s q) place refl (λ r. refl) placed (λ r. refl) (page_offence o s q) p (sym e)

tag : Values → ℕ
tag (header h) = 0
tag (place p) = 1

header_of : (a : Result ⊤ Offence) (g h : Header) → (answer_of a g).state ≡ header h → ((answer_of a g).number ≡ 0) × (g ≡ h)
unfolding tag given
header_of (Ok _) g h e = (refl, ap (given g) e)
header_of (Err p) g h e = absurd (let no : ◌≡◌ {A = ℕ} 1 0 = ap tag e in omega arith)

pub with_header : (o : Order) (s : List ℕ) (q : Request) (h : Header) → (read_of o s q).state ≡ header h → ((read_of o s q).number ≡ 0) × (header_in o s ≡ h)
with_header o s q h = header_of (page_offence o s q) (header_in o s) h
