-- Where a page leads (specs/Promises): by what the reader says of it, and whether it was cut short.
use Prim.Native.Nat.{ℕ, zero, suc, ◌+◌, ◌-◌, ◌≤◌, ◌<◌}
use mathlib.Core.Bool.{Bool, true, false, cond}
use mathlib.Core.List.{List, [], ◌++◌}
use mathlib.Core.Logic.{inl, inr}
use mathlib.Core.Path.{◌≡◌, refl, sym, ap, subst, ◌∙◌}
use native.Mathlib.Nat.{min-le_left}
use native.Mathlib.Omega.{arith}
use lib.Dec.{eqb, ltb}
use borrow.Author.Tests.{lt-ltb, eq-eqb, eqb-true, ltb-true, ltb-false}
use Rattle.std.proofs.Common.{Option, Some, None, Ok, Err, Result}
use Rattle.std.specs.Prelude.{⊤}
use Rattle.std.specs.Prelude.{option_to_list}
use Rattle.layout.specs.Bytes.{header_in, room_of}
use Rattle.layout.specs.declared.Descriptor.{Descriptor}
use Rattle.layout.specs.declared.Header.{Header}
use Rattle.offences.specs.Checks.{descriptor_at, last_before}
use Rattle.offences.specs.declared.Offence.{Offence}
use Rattle.paper.specs.Told.{Told, tells}
use Rattle.paper.specs.declared.ElementId.{ElementId}
use Rattle.reach.proofs.Bounds.{reach_whole, reach_cut, before_some}
use Rattle.reach.proofs.Cut.{cut_bounds}
use Rattle.reach.proofs.Reserved.{reach_same}
use Rattle.reach.specs.Opening.{accepted}
use Rattle.reach.specs.Pages.{count_of, reach_of}
use Rattle.reader.proofs.Ignored.{ignored_unread}
use Rattle.reader.proofs.LayoutTheorem.{heard_at}
use Rattle.reader.proofs.Reserved.{header_same, read_same, reserved_unseen}
use Rattle.reader.proofs.Taken.{Taken, taken}
use Rattle.reader.specs.Judgement as reader
use Rattle.reader.specs.Page.{page_offence}
use Rattle.reader.specs.Reserved.{LooksAlike}
use Rattle.request.proofs.ReservedBits.{asked_again}
use Rattle.request.specs.Requests.{pages_of, refused}
use Rattle.request.specs.declared.Request.{Request}
use Rattle.words.specs.declared.Order.TheVariants.{Little}
use Rattle.walk.specs.Next.{Values, ask, end, place, after, onward, next_for, next_of, next_request}
use Rattle.walk.specs.Promises.{RefusesAsReader, Ends, EndsExactly, Leads, AsksExactly, NextAsked, IgnoredUnasked, ReservedUnasked}
use Rattle.walk.specs.Walk.{round, held_below, elements_in}

-- ## The ways that a page leads

-- the first offence, its list that is whole or was cut short, and whether the last identifier is the highest
pub data Way (s : List ℕ) (q : Request) : Type 0 where
  refuses : (p : ℕ) → reader.read_of Little s q ≡ tells 9 (reader.place p) → next_of s q ≡ tells 9 (place p) → Way s q
  whole : accepted s q ≡ true → (header_in Little s).number ≡ (header_in Little s).returned → next_of s q ≡ tells 0 end → Way s q
  highest : accepted s q ≡ true → 0xFFFF_FFFF ≤ last_before Little s (header_in Little s).returned → next_of s q ≡ tells 0 end → Way s q
  leads : (id : ElementId) → Leads s q id → next_of s q ≡ tells 0 (ask id) → Way s q

module _ (s : List ℕ) (q : Request) where
  abbrev h : Header
  h = header_in Little s

  next_by : (a : Result ⊤ Offence) → page_offence Little s q ≡ a → next_of s q ≡ next_for s (reader.answer_of a h).state
  unfolding next_of
  next_by a e = ap (λ (x : Result ⊤ Offence). next_for s (reader.answer_of x h).state) e

  read_by : (a : Result ⊤ Offence) → page_offence Little s q ≡ a → reader.read_of Little s q ≡ reader.answer_of a h
  read_by a e = ap (λ (x : Result ⊤ Offence). reader.answer_of x h) e

  module _ (clean : page_offence Little s q ≡ Ok tt) where
    abbrev last : ℕ
    last = last_before Little s h.returned

    read_0 : (reader.read_of Little s q).number ≡ 0
    read_0 = ap (λ (t : Told reader.Values). t.number) (read_by (Ok tt) clean)

    is_taken : accepted s q ≡ true
    unfolding accepted
    is_taken = eq-eqb (reader.read_of Little s q).number 0 read_0

    page : Taken Little s q
    page = taken Little s q read_0

    next_reach : (b : Option ElementId) → b ≡ reach_of s → next_of s q ≡ tells 0 (onward b)
    next_reach b e = next_by (Ok tt) clean ∙ ap (λ (x : Option ElementId). tells 0 (onward x)) (sym e)

    module _ (cut : h.returned < h.number) where
      next_after : next_of s q ≡ tells 0 (after (record { 0 = last }))
      next_after = next_reach (Some (record { 0 = last })) (reach_cut s h refl cut (record { 0 = last }) refl)

      -- "16p - 1 is at least 15"
      some : 15 ≤ h.returned
      unfolding count_of
      some = omega (arith, (cut_bounds s q is_taken cut).0, page.asked.2)

      final : Descriptor
      final = descriptor_at Little s (h.returned - 1)

      final_held : (k : ℕ) → suc k ≡ h.returned → reader.slot_of Little s k ≡ Some final
      unfolding final
      final_held k e =
          let back : k ≡ h.returned - 1 = omega (arith, e) in
          rw (lt-ltb k h.returned (omega (arith, e))) (ap (λ (j : ℕ). Some (descriptor_at Little s j)) back)

      final_last : final.id.0 ≡ last
      unfolding final
      final_last = before_some s h.returned (λ e. omega (arith, e, some)) (descriptor_at Little s (h.returned - 1)) refl

      by_last : (b : Bool) → ltb last 0xFFFF_FFFF ≡ b → Way s q
      by_last false e = highest is_taken (ltb-false _ _ e) (next_after ∙ rw e)
      by_last true e =
          leads
          (record { 0 = last + 1 })
          (record {
            taken = is_taken;
            cut = cut;
            some = some;
            last = final;
            held = final_held;
            plus_one = ap (λ (n : ℕ). n + 1) (sym final_last);
            low = omega (arith, ltb-true last 0xFFFF_FFFF e);
          })
          (next_after ∙ rw e)

    by_cut : (b : Bool) → ltb h.returned h.number ≡ b → Way s q
    by_cut true e = by_last (ltb-true _ _ e) (ltb last 0xFFFF_FFFF) refl
    by_cut false e =
        let all : h.number ≤ h.returned = ltb-false _ _ e in
        whole is_taken (omega (arith, all, page.returned, min-le_left h.number (room_of (pages_of q)))) (next_reach None (reach_whole s h refl all))

  by_offence : (a : Result ⊤ Offence) → page_offence Little s q ≡ a → Way s q
  by_offence (Ok _) clean = by_cut clean (ltb h.returned h.number) refl
  by_offence (Err e) is_e = refuses e.0 (read_by (Err e) is_e) (next_by (Err e) is_e)

  pub way : Way s q
  way = by_offence (page_offence Little s q) refl

-- ## One way alone

tag : Values → ℕ
tag (ask id) = 0
tag end = 1
tag (place p) = 2

start_in : ElementId → Values → ElementId
start_in z (ask id) = id
start_in z end = z
start_in z (place p) = z

place_in : Values → ℕ
place_in (ask id) = 0
place_in end = 0
place_in (place p) = p

held_in : Descriptor → Option Descriptor → Descriptor
held_in z None = z
held_in z (Some d) = d

module _ (s : List ℕ) (q : Request) where
  one_number : (m n : ℕ) (v w : Values) → next_of s q ≡ tells m v → next_of s q ≡ tells n w → m ≡ n
  one_number m n v w d e = ap (λ (t : Told Values). t.number) (sym d ∙ e)

  one_tag : (m n : ℕ) (v w : Values) → next_of s q ≡ tells m v → next_of s q ≡ tells n w → tag v ≡ tag w
  one_tag m n v w d e = ap (λ (t : Told Values). tag t.state) (sym d ∙ e)

  one_start : (id id' : ElementId) → next_of s q ≡ tells 0 (ask id) → next_of s q ≡ tells 0 (ask id') → id ≡ id'
  unfolding start_in
  one_start id id' d e = ap (λ (t : Told Values). start_in id t.state) (sym d ∙ e)

  one_place : (p p' : ℕ) → next_of s q ≡ tells 9 (place p) → next_of s q ≡ tells 9 (place p') → p ≡ p'
  unfolding place_in
  one_place p p' d e = ap (λ (t : Told Values). place_in t.state) (sym d ∙ e)

  -- the start is the last identifier plus one
  module _ (id : ElementId) (l : Leads s q id) where
    last_here : (k : ℕ) → suc k ≡ (header_in Little s).returned → l.last ≡ descriptor_at Little s k
    unfolding held_in
    last_here k e =
        let there : reader.slot_of Little s k ≡ Some (descriptor_at Little s k) = rw (lt-ltb k (header_in Little s).returned (omega (arith, e))) in
        ap (held_in l.last) (sym (l.held k e) ∙ there)

    last_led : (n : ℕ) → n ≡ (header_in Little s).returned → id.0 ≡ last_before Little s n + 1
    last_led zero e = absurd (omega (arith, e, l.some))
    last_led (suc k) e = l.plus_one ∙ ap (λ (d : Descriptor). d.id.0 + 1) (last_here k e)

    pub led_last : id.0 ≡ last_before Little s (header_in Little s).returned + 1
    led_last = last_led (header_in Little s).returned refl

-- ## The statements

pub refuses_as_reader : RefusesAsReader
refuses_as_reader s q p = (by_way (way s q), λ e. next_by s q (Err (record { 0 = p })) (heard_at Little s q p (sym e)))
  where
    by_way : Way s q → next_of s q ≡ tells 9 (place p) → reader.read_of Little s q ≡ tells 9 (reader.place p)
    by_way (refuses r is_read is_next) e = is_read ∙ ap (λ (n : ℕ). tells 9 (reader.place n)) (one_place s q r p is_next e)
    by_way (whole is_0 all is_next) e = absurd (omega (arith, one_number s q 0 9 end (place p) is_next e))
    by_way (highest is_0 high is_next) e = absurd (omega (arith, one_number s q 0 9 end (place p) is_next e))
    by_way (leads id l is_next) e = absurd (omega (arith, one_number s q 0 9 (ask id) (place p) is_next e))

-- a page that is taken is not refused
pub unstopped : (s : List ℕ) (q : Request) (p : ℕ) → accepted s q ≡ true → reader.read_of Little s q ≡ tells 9 (reader.place p) → ⊥
unfolding accepted
unstopped s q p ok is_9 =
    let no : ◌≡◌ {A = ℕ} 9 0 = sym (ap (λ (t : Told reader.Values). t.number) is_9) ∙ eqb-true (reader.read_of Little s q).number 0 ok in
    omega arith

pub ends_exactly : EndsExactly
unfolding tag
ends_exactly s q ok = by_way (way s q)
  where
    on : (id : ElementId) → Leads s q id → Ends s → ⊥
    on id l (inl all) = omega (arith, all, l.cut)
    on id l (inr high) = omega (arith, high, l.low, led_last s q id l)

    by_way : Way s q → (next_of s q ≡ tells 0 end → Ends s) × (Ends s → next_of s q ≡ tells 0 end)
    by_way (refuses r is_read is_next) = absurd (unstopped s q r ok is_read)
    by_way (whole _ all is_next) = (λ e. inl all, λ ends. is_next)
    by_way (highest _ high is_next) = (λ e. inr high, λ ends. is_next)
    by_way (leads id l is_next) = (λ e. absurd (let no : ◌≡◌ {A = ℕ} 0 1 = one_tag s q 0 0 (ask id) end is_next e in omega arith), λ ends. absurd (on id l ends))

pub asks_exactly : AsksExactly
unfolding tag
asks_exactly s q id = (to (way s q), from (way s q))
  where
    to : Way s q → next_of s q ≡ tells 0 (ask id) → Leads s q id
    to (refuses r is_read is_next) e = absurd (omega (arith, one_number s q 9 0 (place r) (ask id) is_next e))
    to (whole _ all is_next) e = absurd (let no : ◌≡◌ {A = ℕ} 1 0 = one_tag s q 0 0 end (ask id) is_next e in omega arith)
    to (highest _ high is_next) e = absurd (let no : ◌≡◌ {A = ℕ} 1 0 = one_tag s q 0 0 end (ask id) is_next e in omega arith)
    to (leads id' l is_next) e = subst (Leads s q) (one_start s q id' id is_next e) l

    from : Way s q → Leads s q id → next_of s q ≡ tells 0 (ask id)
    from (refuses r is_read is_next) l = absurd (unstopped s q r l.taken is_read)
    from (whole _ all is_next) l = absurd (omega (arith, all, l.cut))
    from (highest _ high is_next) l = absurd (omega (arith, high, l.low, led_last s q id l))
    from (leads id' l' is_next) l =
        is_next ∙ ap (λ (n : ℕ). tells 0 (ask (record { 0 = n }))) (led_last s q id' l' ∙ sym (led_last s q id l))

-- ## The request of a page that is taken, and the next

pub page_taken : (s : List ℕ) (q : Request) → accepted s q ≡ true → Taken Little s q
unfolding accepted
page_taken s q ok = taken Little s q (eqb-true (reader.read_of Little s q).number 0 ok)

pub page_asked : (s : List ℕ) (q : Request) → accepted s q ≡ true → refused q ≡ false
unfolding accepted
page_asked s q ok = by_test (refused q) refl
  where
    by_test : (b : Bool) → refused q ≡ b → refused q ≡ false
    by_test true e = absurd (let no : ◌≡◌ {A = ℕ} 9 0 = rw e at (eqb-true (reader.read_of Little s q).number 0 ok) in omega arith)
    by_test false e = e

pub next_asked : NextAsked
next_asked s q id pages l some = asked_again q (next_request q id pages) refl l.low some (page_asked s q l.taken)

-- ## What is not looked at

next_read : (s t : List ℕ) (p q : Request) → reach_of s ≡ reach_of t → reader.read_of Little s p ≡ reader.read_of Little t q → next_of s p ≡ next_of t q
unfolding next_of
next_read s t p q same_reach same_read = λ i. by_reader (same_read i).state i
  where
    by_reader : (v : reader.Values) → next_for s v ≡ next_for t v
    by_reader (reader.header g) = ap (λ (b : Option ElementId). tells 0 (onward b)) same_reach
    by_reader (reader.place p) = refl

pub ignored_unasked : IgnoredUnasked
ignored_unasked s p q same = next_read s s p q refl (ignored_unread Little s p q same)

module _ (s t : List ℕ) (alike : LooksAlike Little s t) (q : Request) where
  below-same : (n : ℕ) → held_below s n ≡ held_below t n
  below-same zero = refl
  below-same (suc n) = λ i. below-same n i ++ option_to_list ((reserved_unseen Little s t alike).1 n i)

  elements_same : elements_in (round q s) ≡ elements_in (round q t)
  unfolding elements_in accepted
  elements_same =
      (λ i. cond (eqb (read_same Little s t alike q i).number 0) (below-same (header_in Little s).returned i) [])
      ∙ ap (λ (h : Header). cond (accepted t q) (held_below t h.returned) []) (header_same Little s t alike)

pub reserved_unasked : ReservedUnasked
reserved_unasked s t alike q = (next_read s t q q (reach_same s t alike) (read_same Little s t alike q), elements_same s t alike q)
