-- Laws of a request: one for each way out of the code's tests, and what callers use of the shut definition.
use Prim.Native.Nat.{ℕ, ◌%◌, ◌^◌, ◌≤◌, ◌<◌}
use mathlib.Core.Bool.{true, false}
use mathlib.Core.Path.{◌≡◌, refl, sym, ◌∙◌}
use native.Mathlib.Omega.{arith}
use lib.Dec.{ltb}
use borrow.Author.Tests.{lt-ltb, le-ltb, ltb-false}
use Rattle.request.proofs.Requests as request
use Rattle.request.proofs.Requests.{or_false_both}
use Rattle.request.proofs.ReservedBits.{unset}
use Rattle.request.specs.Requests.{filter_of, report_type_of, pages_of, start_of, refused}
use Rattle.request.specs.declared.Request.{Request}
use Rattle.query.specs.Promises.{AsksTheSame, UnsetAsked, query_of, AskedBack}
use Rattle.query.specs.Queries.{due_four, asked_for}
use Rattle.query.specs.declared.Query.{Query}

module _ (q : Query) where
  pub due_filter : 1 < q.filter → true ≡ due_four q
  unfolding due_four
  due_filter h = sym (rw (lt-ltb 1 q.filter h))

  pub due_report : q.filter ≤ 1 → ltb 1 q.report ≡ due_four q
  unfolding due_four
  due_report h = sym (rw (le-ltb 1 q.filter h))

  -- not due 4: both fields are 0 or 1
  pub not_due : due_four q ≡ false → (q.filter ≤ 1) × (q.report ≤ 1)
  unfolding due_four
  not_due e =
      let both = or_false_both (ltb 1 q.filter) (ltb 1 q.report) e in
      (ltb-false 1 q.filter both.0, ltb-false 1 q.report both.1)

  pub due_not : q.filter ≤ 1 → q.report ≤ 1 → due_four q ≡ false
  unfolding due_four
  due_not f r = rw (le-ltb 1 q.filter f, le-ltb 1 q.report r)

-- a start of 32 bits stands whole in LBA
pub start_whole : (p : ℕ) (q : Query) → q.start.0 < 2 ^ 32
    → ◌≡◌ {A = Request} (record { feature = (asked_for p q).feature; count = record { 0 = p }; lba = record { 0 = q.start.0 } }) (asked_for p q)
start_whole p q low = λ i. record { feature = (asked_for p q).feature; count = record { 0 = p }; lba = record { 0 = whole i } }
  where
    whole : q.start.0 ≡ q.start.0 % 2 ^ 32
    whole = omega (arith, low)

pub unset_asked : UnsetAsked
unset_asked p q = unset (asked_for p q) (omega arith) (omega arith) (omega arith)

-- fields that are not due 4 stand whole in FEATURE
module _ (p : ℕ) (q : Query) (filter_low : q.filter ≤ 1) (report_low : q.report ≤ 1) where
  pub filter_asked : filter_of (asked_for p q) ≡ q.filter
  filter_asked = omega arith

  pub report_asked : report_type_of (asked_for p q) ≡ q.report
  report_asked = omega arith

  pub not-refused : 1 ≤ p → refused (asked_for p q) ≡ false
  not-refused some = request.not-refused (asked_for p q) (omega (arith, filter_asked)) (omega (arith, report_asked)) some (unset_asked p q)

pub start_asked : (p : ℕ) (q : Query) → q.start.0 < 2 ^ 32 → start_of (asked_for p q) ≡ q.start.0
start_asked p q low = omega arith

pub asks_the_same : AsksTheSame
asks_the_same p q low ok =
    let (f, r) = not_due q ok in
    record { filter = filter_asked p q f r; report = report_asked p q f r; start = start_asked p q low; pages = refl }

pub asked_back : AskedBack
asked_back r ok =
    let (f, t, _, none) = request.accepted r ok in
    let q = query_of r in (
      due_not q f t,
      record {
        filter = sym (filter_asked (pages_of r) q f t);
        report = sym (report_asked (pages_of r) q f t);
        pages = refl;
        start = omega arith;
        reserved = none ∙ sym (unset_asked (pages_of r) q);
      },
    )
