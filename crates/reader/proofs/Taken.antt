-- A page that the reader takes: its rules by name, as callers use the layout theorem.
use Prim.Native.Nat.{ℕ, ◌+◌, ◌-◌, ◌*◌, ◌≤◌, ◌<◌}
use mathlib.Core.Bool.{true}
use mathlib.Core.List.{List}
use mathlib.Core.Path.{◌≡◌}
use native.Mathlib.Nat.{min-le_right}
use native.Mathlib.Omega.{arith}
use lib.ListN.{length, get_or}
use Rattle.layout.specs.Bytes.{header_in, room_of, returned_of}
use Rattle.layout.specs.declared.Descriptor.{Descriptor}
use Rattle.offences.specs.Checks.{base_of, descriptor_at, last_before}
use Rattle.paper.specs.Told.{tells}
use Rattle.request.specs.Requests.{filter_of, report_type_of, pages_of, start_of}
use Rattle.request.specs.declared.Request.{Request}
use Rattle.words.specs.declared.Order.{Order}
use Rattle.reader.specs.Judgement.{header, read_of}
use Rattle.reader.specs.Layout.{Rule, Each, below, Asked, InFilter, descriptor_rules, rules_at, padding_rules}
use Rattle.reader.proofs.LayoutTheorem.{takes_exactly}
use Rattle.reader.proofs.Rules.{each_both, each_first, each_second, each_at, each_below}

-- ## A descriptor, after the identifier `last`

pub record Listed (q : Request) (last : ℕ) (d : Descriptor) : Type 0 where
  pub some : 1 ≤ d.id.0
  pub started : start_of q ≤ d.id.0
  pub rises : last < d.id.0
  pub earned : d.restorable ≡ true → d.health ≡ 0xFF
  pub typed : report_type_of q ≡ 1 → d.kind ≡ 1
  pub filtered : filter_of q ≡ 1 → InFilter d.health

module _ (q : Request) (last base : ℕ) (d : Descriptor) where
  pub listed_each : Listed q last d → Each (descriptor_rules q last base d)
  listed_each l = ((l.some, l.started, l.rises), (l.earned, (l.typed, (l.filtered, tt))))

  pub each_listed : Each (descriptor_rules q last base d) → Listed q last d
  each_listed ((some, started, rises), (earned, (typed, (filtered, _)))) =
      record { some = some; started = started; rises = rises; earned = earned; typed = typed; filtered = filtered }

-- ## A page

pub record Taken (o : Order) (s : List ℕ) (q : Request) : Type 0 where
  pub asked : Asked q
  pub long : length s ≡ 512 * pages_of q
  pub returned : (header_in o s).returned ≡ returned_of (header_in o s).number (pages_of q)
  pub list : (k : ℕ) → k < (header_in o s).returned → Listed q (last_before o s k) (descriptor_at o s k)
  pub padding : (i : ℕ) → i < length s - base_of (header_in o s).returned → get_or s (base_of (header_in o s).returned + i) 0 ≡ 0

module _ (o : Order) (s : List ℕ) (q : Request) where
  abbrev n : ℕ
  n = (header_in o s).returned

  abbrev list_rules : List Rule
  list_rules = below n (rules_at o s q)

  abbrev padding_rules_lem : List Rule
  padding_rules_lem = below (length s - base_of n) (padding_rules s (base_of n))

  -- such a page, and no other, is taken
  pub taken : (read_of o s q).number ≡ 0 → Taken o s q
  taken is_0 =
      let (asked, (long, (returned, rest))) = (takes_exactly o s q).0 is_0 in
      record {
        asked = asked;
        long = long;
        returned = returned;
        list = λ k l. each_listed q (last_before o s k) (base_of k) (descriptor_at o s k) (each_at n (rules_at o s q) (each_first list_rules padding_rules_lem rest) k l);
        padding = λ i l. (each_at (length s - base_of n) (padding_rules s (base_of n)) (each_second list_rules padding_rules_lem rest) i l).0;
      }

  pub takes : Taken o s q → read_of o s q ≡ tells 0 (header (header_in o s))
  takes t =
      let list : Each list_rules = each_below n (rules_at o s q) (λ k l. listed_each q (last_before o s k) (base_of k) (descriptor_at o s k) (t.list k l)) in
      let padding : Each padding_rules_lem = each_below (length s - base_of n) (padding_rules s (base_of n)) (λ i l. (t.padding i l, tt)) in
      (takes_exactly o s q).1 (t.asked, (t.long, (t.returned, each_both list_rules padding_rules_lem list padding)))

  -- its descriptors are at most "16p - 1"
  pub room : Taken o s q → n ≤ room_of (pages_of q)
  room t = omega (arith, t.returned, min-le_right (header_in o s).number (room_of (pages_of q)))
