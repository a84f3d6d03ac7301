-- The layout theorem: the reader takes exactly the data that keeps each rule, and refuses any other at the first that is broken. The rules
-- of the descriptors, and that the checks decide them, are the ATA reader's.
use Prim.Native.Nat.{ℕ, ◌≤◌}
use mathlib.Core.Bool.{Bool, true, not}
use mathlib.Core.List.{List}
use mathlib.Core.Path.{◌≡◌, refl, sym, ap, ◌∙◌}
use lib.Dec.{leb}
use lib.ListN.{length}
use borrow.Author.Tests.{le-leb, leb-true, not-true}
use Rattle.layout.specs.Bytes.{header_in}
use Rattle.layout.specs.declared.Header.{Header}
use Rattle.offences.specs.Checks.{base_of, offence_at}
use Rattle.std.proofs.Common.{Ok, Err, Result}
use Rattle.std.specs.Prelude.{⊤}
use Rattle.offences.specs.First.{unless, first_below}
use Rattle.offences.specs.declared.Offence.{Offence}
use Rattle.paper.specs.Told.{Told, tells}
use Rattle.query.proofs.Queries.{not_due, due_not}
use Rattle.query.specs.Queries.{due_four, asked}
use Rattle.query.specs.declared.Query.{Query}
use Rattle.reader.proofs.LayoutTheorem.{next_same, list_decides}
use Rattle.reader.proofs.Rules.{Decides, one, join, next, clean_0, at_9, takes, refuses}
use Rattle.reader.specs.Layout.{rule}
use Rattle.words.specs.declared.Order.{Order}
use Rattle.scsi.specs.Data.{whole_of, torn_of, data_offence}
use Rattle.scsi.specs.Judgement.{Values, reading, place, answer_of, read_of}
use Rattle.scsi.specs.Layout.{data_rules}
use Rattle.scsi.specs.Promises.{TakesExactly, RefusesExactly}

asked_to : (q : Query) → not (due_four q) ≡ true → (q.filter ≤ 1) × (q.report ≤ 1)
asked_to q e = not_due q (not-true _ e)

asked_from : (q : Query) → (q.filter ≤ 1) × (q.report ≤ 1) → not (due_four q) ≡ true
asked_from q (f, r) = rw (due_not q f r)

module _ (o : Order) (s : List ℕ) (q : Query) where
  abbrev n : ℕ
  n = (header_in o s).number

  abbrev whole : ℕ
  whole = whole_of n (length s)

  data_decides : Decides (data_offence o s q) (data_rules o s q)
  data_decides =
      let list : Result ⊤ Offence = first_below whole (offence_at o s (asked q)) in
      let past : Result ⊤ Offence = unless (leb (length s) (base_of n)) (base_of n) in
      next (leb 32 (length s)) (rule 0 (32 ≤ length s)) (leb-true _ _) (le-leb _ _) _ _
      (next (not (due_four q)) (rule 0 _) (asked_to q) (asked_from q) _ _
      (next_same (header_in o s).returned n 4 _ _
      (join list past _ _ (list_decides o s (asked q) whole)
      (one (leb (length s) (base_of n)) (rule (base_of n) (length s ≤ base_of n)) (leb-true _ _) (le-leb _ _)))))

  abbrev answered : Result ⊤ Offence → Told Values
  answered a = answer_of a (header_in o s) whole (torn_of n (length s))

placed : Values → ℕ
placed (reading h whole torn) = 0
placed (place p) = p

pub takes_exactly : TakesExactly
takes_exactly o s q = takes (answered o s q) place refl (λ p. refl) (data_offence o s q) (data_rules o s q) (data_decides o s q)

pub refuses_exactly : RefusesExactly
unfolding placed
refuses_exactly o s q = refuses (answered o s q) place refl (λ p. refl) (data_offence o s q) (data_rules o s q) (data_decides o s q) placed (λ p. refl)

-- ## What was heard tells the offence

reading_in : Header → Values → Header
reading_in g (reading h whole torn) = h
reading_in g (place p) = g

whole_in : ℕ → Values → ℕ
whole_in n (reading h whole torn) = whole
whole_in n (place p) = n

module _ (o : Order) (s : List ℕ) (q : Query) where
  -- a reading goes with 0, and is the data's
  pub heard_clean : (h : Header) (w : ℕ) (t : Bool) → tells 0 (reading h w t) ≡ read_of o s q
      → (data_offence o s q ≡ Ok tt) × (h ≡ header_in o s) × (w ≡ whole_of (header_in o s).number (length s))
  unfolding reading_in whole_in
  heard_clean h w t e =
      let clean : data_offence o s q ≡ Ok tt = clean_0 (answered o s q) place refl (λ p. refl) (data_offence o s q) (ap (λ (u : Told Values). u.number) (sym e)) in
      let same : tells 0 (reading h w t) ≡ answered o s q (Ok tt) = e ∙ ap (answered o s q) clean in
      (clean, ap (λ (u : Told Values). reading_in h u.state) same, ap (λ (u : Told Values). whole_in w u.state) same)

  pub heard_at : (p : ℕ) → tells 9 (place p) ≡ read_of o s q → data_offence o s q ≡ Err (record { 0 = p })
  unfolding placed
  heard_at p e = at_9 (answered o s q) place refl (λ r. refl) placed (λ r. refl) (data_offence o s q) p (sym e)
