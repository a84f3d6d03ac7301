-- Laws of a request: what the code's tests say of it, a law for each way out, and what callers use of the shut definitions.
use Prim.Native.Nat.{ℕ, ◌≤◌, ◌<◌}
use mathlib.Core.Bool.{Bool, true, false, true≢false, ◌||◌, and-true, or-true, or-false}
use mathlib.Core.Path.{◌≡◌, refl, sym, ◌∙◌}
use native.Mathlib.Omega.{arith}
use lib.Dec.{leb, ltb, eqb}
use borrow.Author.Tests.{le-leb, lt-leb, lt-ltb, le-ltb, eq-eqb, ne_eqb, leb-false, ltb-false, eqb-false}
use Rattle.request.specs.Requests.{SameFields, filter_of, report_type_of, pages_of, sets_reserved, refused, takes_type, takes_health}
use Rattle.request.specs.declared.Request.{Request}

-- ## Which requests are due 4

module _ (q : Request) where
  module _ (f : ℕ) (is_f : f ≡ filter_of q) where
    pub refused_filter : 1 < f → true ≡ refused q
    unfolding refused
    refused_filter h = sym (rw (le-leb 2 (filter_of q) (omega arith)))

    module _ (low : f ≤ 1) (t : ℕ) (is_t : t ≡ report_type_of q) where
      pub refused_type : 1 < t → true ≡ refused q
      unfolding refused
      refused_type h = sym (rw (lt-leb 2 (filter_of q) (omega arith), lt-ltb 1 (report_type_of q) (omega arith)))

      module _ (less : t ≤ 1) where
        pub refused_pages : pages_of q ≡ 0 → true ≡ refused q
        unfolding refused
        refused_pages none = sym (rw (lt-leb 2 (filter_of q) (omega arith), le-ltb 1 (report_type_of q) (omega arith), eq-eqb (pages_of q) 0 none))

        pub refused_reserved : (pages_of q ≡ 0 → ⊥) → (r : Bool) → r ≡ sets_reserved q → r ≡ refused q
        unfolding refused
        refused_reserved some r is_r =
            is_r ∙ sym (rw (lt-leb 2 (filter_of q) (omega arith), le-ltb 1 (report_type_of q) (omega arith), ne_eqb (pages_of q) 0 some))

-- ## The tests of an element

pub type_storage : (kind t r : ℕ) → t ≡ r → t ≡ 1 → eqb kind 1 ≡ takes_type r kind
type_storage kind t r e h = sym (rw (eq-eqb r 1 (omega arith)))

pub type_any : (kind t r : ℕ) → t ≡ r → (t ≡ 1 → ⊥) → true ≡ takes_type r kind
type_any kind t r e h = sym (rw (ne_eqb r 1 (λ g. h (omega arith))))

module _ (h f r : ℕ) (is_f : f ≡ r) where
  pub filter_any : (f ≡ 1 → ⊥) → true ≡ takes_health r h
  unfolding takes_health
  filter_any n = sym (rw (ne_eqb r 1 (λ g. n (omega arith))))

  module _ (only : f ≡ 1) where
    pub filter_low : h ≤ 0xCF → leb 0x65 h ≡ takes_health r h
    unfolding takes_health
    filter_low l = sym (rw (eq-eqb r 1 (omega arith), le-leb h 0xCF l, ne_eqb h 0xFF (λ g. omega arith), and-true, or-false))

    pub filter_high : 0xCF < h → eqb h 0xFF ≡ takes_health r h
    unfolding takes_health
    filter_high l = sym (rw (eq-eqb r 1 (omega arith), lt-leb h 0xCF l, le-leb 0x65 h (omega arith)))

-- ## For callers

pub or_false_both : (a b : Bool) → (a || b) ≡ false → (a ≡ false) × (b ≡ false)
or_false_both true b e = absurd (true≢false e)
or_false_both false b e = (refl, e)

pub set-refused : (q : Request) → sets_reserved q ≡ true → refused q ≡ true
unfolding refused
set-refused q set = rw (set, or-true, or-true, or-true)

-- it is due 4 by what the fields and the reserved bits say
pub refused-same : (p q : Request) → SameFields p q → refused p ≡ refused q
unfolding refused
refused-same p q same = rw (same.filter, same.report, same.pages, same.reserved)

-- a request that is not due 4 asks for a page at least, by a filter and a report type that 000 names, and sets no reserved bit
pub accepted : (q : Request) → refused q ≡ false → (filter_of q ≤ 1) × (report_type_of q ≤ 1) × (1 ≤ pages_of q) × (sets_reserved q ≡ false)
unfolding refused
accepted q e =
    let one = or_false_both (leb 2 (filter_of q)) _ e in
    let two = or_false_both (ltb 1 (report_type_of q)) _ one.1 in
    let three = or_false_both (eqb (pages_of q) 0) (sets_reserved q) two.1 in
    (omega (arith, leb-false 2 (filter_of q) one.0), ltb-false 1 (report_type_of q) two.0, omega (arith, eqb-false (pages_of q) 0 three.0), three.1)

-- and one that does so is not due 4
pub not-refused : (q : Request) → filter_of q ≤ 1 → report_type_of q ≤ 1 → 1 ≤ pages_of q → sets_reserved q ≡ false → refused q ≡ false
unfolding refused
not-refused q f r p none = rw (lt-leb 2 (filter_of q) (omega arith), le-ltb 1 (report_type_of q) r, ne_eqb (pages_of q) 0 (omega arith), none)
