-- A page that was cut bounds the comparison at its last identifier (specs/Promises).
use Prim.Native.Nat.{ℕ, zero, suc, ◌-◌, ◌≤◌, ◌<◌}
use mathlib.Core.Bool.{Bool, true, false}
use mathlib.Core.List.{List}
use mathlib.Core.Path.{◌≡◌, refl, ap, ◌∙◌}
use native.Mathlib.Nat.{min-eq_left, min-eq_right}
use native.Mathlib.Omega.{arith}
use lib.Dec.{leb}
use borrow.Author.Tests.{lt-ltb, leb-true, leb-false, eqb-true}
use Rattle.layout.specs.Bytes.{header_in, room_of}
use Rattle.offences.specs.Checks.{descriptor_at, last_before}
use Rattle.reader.proofs.Taken.{Taken, taken}
use Rattle.request.specs.Requests.{pages_of}
use Rattle.request.specs.declared.Request.{Request}
use Rattle.std.proofs.Common.{Some}
use Rattle.words.specs.declared.Order.TheVariants.{Little}
use Rattle.reach.specs.Opening.{accepted}
use Rattle.reach.specs.Pages.{count_of, element_at, reach_of}
use Rattle.reach.specs.Promises.{CutBounds}

module _ (s : List ℕ) (q : Request) (page : Taken Little s q) (cut : (header_in Little s).returned < (header_in Little s).number) where
  abbrev returned : ℕ
  returned = (header_in Little s).returned

  full : (b : Bool) → leb (room_of (pages_of q)) (header_in Little s).number ≡ b → returned ≡ room_of (pages_of q)
  full true e = page.returned ∙ min-eq_right (leb-true _ _ e)
  full false e =
      let few : (header_in Little s).number < room_of (pages_of q) = leb-false _ _ e in
      let all : returned ≡ (header_in Little s).number = page.returned ∙ min-eq_left (omega (arith, few)) in
      absurd (omega (arith, all, cut))

  some : 1 ≤ returned
  some = omega (arith, full (leb (room_of (pages_of q)) (header_in Little s).number) refl, page.asked.2)

  -- the last descriptor, and that it has an identifier
  last : (n : ℕ) → n ≡ returned → (last_before Little s n ≡ (descriptor_at Little s (n - 1)).id.0) × (1 ≤ (descriptor_at Little s (n - 1)).id.0)
  last zero e = absurd (omega (arith, e, some))
  last (suc k) e =
      let one_less : suc k - 1 ≡ k = omega arith in
      rw one_less (refl, (page.list k (omega (arith, e))).some)

pub cut_bounds : CutBounds
unfolding accepted count_of element_at reach_of
cut_bounds s q ok cut =
    let page : Taken Little s q = taken Little s q (eqb-true _ _ ok) in
    let n : ℕ = (header_in Little s).returned in
    let at_last = last s q page cut n refl in (
      full s q page cut (leb (room_of (pages_of q)) (header_in Little s).number) refl,
      rw (lt-ltb n (header_in Little s).number cut) (ap (λ (id : ℕ). Some (record { 0 = id })) at_last.0),
      at_last.1,
    )
