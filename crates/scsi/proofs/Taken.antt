-- Data that the reader takes: its rules by name, as callers use the layout theorem.
use Prim.Native.Nat.{ℕ, ◌≤◌, ◌<◌}
use mathlib.Core.List.{List, [], ◌∷◌}
use mathlib.Core.Path.{◌≡◌}
use lib.ListN.{length}
use Rattle.layout.specs.Bytes.{header_in}
use Rattle.offences.specs.Checks.{base_of, descriptor_at, last_before}
use Rattle.paper.specs.Told.{tells}
use Rattle.query.specs.Queries.{asked}
use Rattle.query.specs.declared.Query.{Query}
use Rattle.reader.proofs.Rules.{each_both, each_first, each_second, each_at, each_below}
use Rattle.reader.proofs.Taken.{Listed, listed_each, each_listed}
use Rattle.reader.specs.Layout.{Rule, rule, Each, below, rules_at}
use Rattle.words.specs.declared.Order.{Order}
use Rattle.scsi.specs.Data.{whole_of, torn_of}
use Rattle.scsi.specs.Judgement.{reading, read_of}
use Rattle.scsi.proofs.LayoutTheorem.{takes_exactly}

pub record Taken (o : Order) (s : List ℕ) (q : Query) : Type 0 where
  pub there : 32 ≤ length s
  pub fields : (q.filter ≤ 1) × (q.report ≤ 1)
  pub returned : (header_in o s).returned ≡ (header_in o s).number
  pub list : (k : ℕ) → k < whole_of (header_in o s).number (length s) → Listed (asked q) (last_before o s k) (descriptor_at o s k)
  pub most : length s ≤ base_of (header_in o s).number

module _ (o : Order) (s : List ℕ) (q : Query) where
  abbrev n : ℕ
  n = (header_in o s).number

  abbrev whole : ℕ
  whole = whole_of n (length s)

  abbrev list_rules : List Rule
  list_rules = below whole (rules_at o s (asked q))

  abbrev end_rules : List Rule
  end_rules = rule (base_of n) (length s ≤ base_of n) ∷ []

  -- such data, and no other, is taken
  pub taken : (read_of o s q).number ≡ 0 → Taken o s q
  taken is_0 =
      let (there, (fields, (returned, rest))) = (takes_exactly o s q).0 is_0 in
      record {
        there = there;
        fields = fields;
        returned = returned;
        list = λ k l.
            each_listed (asked q) (last_before o s k) (base_of k) (descriptor_at o s k) (each_at whole (rules_at o s (asked q)) (each_first list_rules end_rules rest) k l);
        most = (each_second list_rules end_rules rest).0;
      }

  pub takes : Taken o s q → read_of o s q ≡ tells 0 (reading (header_in o s) whole (torn_of n (length s)))
  takes t =
      let list : Each list_rules =
      each_below whole (rules_at o s (asked q)) (λ k l. listed_each (asked q) (last_before o s k) (base_of k) (descriptor_at o s k) (t.list k l)) in
      (takes_exactly o s q).1 (t.there, (t.fields, (t.returned, each_both list_rules end_rules list (t.most, tt))))
