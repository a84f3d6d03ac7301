-- A device's page in a walk: it has the first elements of its request's list, and where it leads on, the next request's list is the rest.
use Prim.Native.Nat.{ℕ, zero, suc, ◌+◌, ◌-◌, ◌^◌, ◌≤◌, ◌<◌, min}
use mathlib.Core.Bool.{Bool, true, false, ◌&&◌}
use mathlib.Core.List.{List, map}
use mathlib.Core.Logic.{inl, inr}
use mathlib.Core.Path.{◌≡◌, refl, sym, ap, ◌∙◌}
use native.Mathlib.Nat.{min_comm, min-le_left, min-le_right, min-eq_left, min-eq_right}
use native.Mathlib.Omega.{arith}
use lib.Dec.{leb}
use lib.ListN.{length, get_or, take, drop, length-drop}
use lib.Seq.{take-suc}
use borrow.Author.Tests.{eq-eqb, le-leb, leb-true, leb-false}
use Rattle.agreement.proofs.Agreement.{none, list_fits, header_here, descriptor_here, agrees}
use Rattle.conduct.specs.Fits.{Fits}
use Rattle.device.specs.declared.Device.{Device}
use Rattle.layout.specs.Bytes.{header_in, room_of}
use Rattle.layout.specs.Promises.{DescriptorFits}
use Rattle.layout.specs.declared.Descriptor.{Descriptor}
use Rattle.layout.specs.declared.Header.{Header}
use Rattle.offences.specs.Checks.{last_before}
use Rattle.paper.specs.Told.{Told}
use Rattle.paper.specs.declared.ElementId.{ElementId}
use Rattle.paper.specs.declared.PageCount.{PageCount}
use Rattle.reach.specs.Opening.{accepted}
use Rattle.reader.specs.Judgement as reader
use Rattle.request.proofs.Requests as requests
use Rattle.request.specs.Requests.{filter_of, report_type_of, pages_of, start_of, refused, takes_type, takes_health}
use Rattle.request.specs.declared.Request.{Request}
use Rattle.slices.proofs.Lists.{every_at, take_min}
use Rattle.slices.specs.Lists.{keep}
use Rattle.status.proofs.EveryPage.{list_ascends}
use Rattle.status.specs.Page.{shown_all, list_of, header_of, page_of}
use Rattle.table.proofs.Ascending.{both}
use Rattle.table.specs.Elements.{identifiers, ascending}
use Rattle.view.specs.Shown.{asks}
use Rattle.walk.proofs.Pages.{led_last}
use Rattle.walk.proofs.Walks.{start_next, start_climbs}
use Rattle.walk.specs.Promises.{Ends, Leads}
use Rattle.walk.specs.Next.{next_request}
use Rattle.walk.specs.Walk.{round, held_below, elements_in}
use Rattle.words.specs.declared.Order.TheVariants.{Little}
use Rattle.tour.proofs.Lists.{from, rises, keeps_rest, keeps_both, narrows}

abbrev id_of : Descriptor → ℕ
id_of x = x.id.0

-- ## A page

module _ (d : Device) (fits : Fits d) (asc : ascending 0 (identifiers d.table) ≡ true) (q : Request) (ok : refused q ≡ false) where
  abbrev L : List Descriptor
  L = list_of d q

  abbrev R : ℕ
  R = room_of (pages_of q)

  abbrev page : List ℕ
  page = page_of d q

  abbrev n : ℕ
  n = (header_of d q).returned

  number_here : (header_in Little page).number ≡ length L
  number_here = ap (λ (h : Header). h.number) (header_here d q fits asc ok)

  returned_here : (header_in Little page).returned ≡ min (length L) R
  returned_here = ap (λ (h : Header). h.returned) (header_here d q fits asc ok)

  pub some_room : 15 ≤ R
  some_room = omega (arith, (requests.accepted q ok).2)

  -- "each page is read by the reader": its first elements
  held_here : (k : ℕ) → k ≤ n → held_below page k ≡ take k L
  held_here zero less = refl
  held_here (suc k) less =
      let there : k < n = omega (arith, less) in
      rw (held_here k (omega (arith, less)), (agrees d q fits asc ok).1 k there) (sym (take-suc L k none (omega (arith, there, min-le_left (length L) R))))

  pub is_taken : accepted page q ≡ true
  unfolding accepted
  is_taken = eq-eqb (reader.read_of Little page q).number 0 (ap (λ (t : Told reader.Values). t.number) (agrees d q fits asc ok).0)

  pub elements_here : elements_in (round q page) ≡ take R L
  unfolding elements_in
  elements_here =
      rw is_taken
      (ap (held_below page) returned_here
      ∙ held_here n (omega arith)
      ∙ ap (λ (k : ℕ). take k L) (min_comm (length L) R)
      ∙ take_min R L)

  list_up : ascending 0 (map id_of L) ≡ true
  list_up = list_ascends d q asc

  -- of a list that was cut short: its last element shown, and that there is a higher one
  module _ (cut : R < length L) where
    full : min (length L) R ≡ R
    full = min-eq_right (omega (arith, cut))

    last_in : (k : ℕ) → k ≡ R → last_before Little page k ≡ id_of (get_or L (R - 1) none)
    last_in zero e = absurd (omega (arith, e, some_room))
    last_in (suc k) e =
        let back : k ≡ R - 1 = omega (arith, e) in
        ap id_of (descriptor_here d q fits asc ok k (omega (arith, e, full))) ∙ ap (λ (j : ℕ). id_of (get_or L j none)) back

    last_here : last_before Little page (header_in Little page).returned ≡ id_of (get_or L (R - 1) none)
    last_here = ap (last_before Little page) (returned_here ∙ full) ∙ last_in R refl

    last_low : id_of (get_or L (R - 1) none) < 0xFFFF_FFFF
    last_low =
        let back : suc (R - 1) ≡ R = omega (arith, some_room) in
        let up = rises id_of 0 L (R - 1) none (omega (arith, cut, back)) list_up in
        let fit : id_of (get_or L (suc (R - 1)) none) < 2 ^ 32 = (every_at DescriptorFits L (suc (R - 1)) none (omega (arith, cut, back)) (list_fits d q fits)).id in
        omega (arith, up, fit)

  -- where it is not, N equals returned
  pub whole_here : length L ≤ R → (header_in Little page).number ≡ (header_in Little page).returned
  whole_here all = number_here ∙ sym (returned_here ∙ min-eq_left all)

  -- where it ends, the list was not cut short
  pub ends_whole : Ends page → length L ≤ R
  ends_whole (inl all) = omega (arith, number_here, returned_here, min-le_right (length L) R, all)
  ends_whole (inr high) = by_test (leb (length L) R) refl
    where
      by_test : (b : Bool) → leb (length L) R ≡ b → length L ≤ R
      by_test true e = leb-true (length L) R e
      by_test false e =
          let cut : R < length L = leb-false (length L) R e in
          absurd (omega (arith, high, last_here cut, last_low cut))

  -- where it leads on, the rest of the list is the next request's
  module _ (id : ElementId) (l : Leads page q id) where
    pub leads_cut : R < length L
    leads_cut = omega (arith, l.cut, number_here, returned_here, min-le_left (length L) R)

    pub rest_kept : keep (from id_of id.0) L ≡ drop R L
    rest_kept =
        let back : suc (R - 1) ≡ R = omega (arith, some_room) in
        let is_id : id.0 ≡ id_of (get_or L (R - 1) none) + 1 = led_last page q id l ∙ ap (λ (n : ℕ). n + 1) (last_here leads_cut) in
        ap (λ (b : ℕ). keep (from id_of b) L) is_id
        ∙ keeps_rest id_of 0 L (R - 1) none (omega (arith, leads_cut)) list_up
        ∙ ap (λ (k : ℕ). drop k L) back

    module _ (pages : PageCount) where
      narrower : (x : Descriptor) → asks (next_request q id pages) x ≡ (from id_of id.0 x && asks q x)
      unfolding asks
      narrower x = rw (start_next q page id pages l) (by_test (leb id.0 (id_of x)) refl)
        where
          test : Bool
          test = takes_type (report_type_of q) x.kind && takes_health (filter_of q) x.health

          by_test : (b : Bool) → leb id.0 (id_of x) ≡ b → (b && test) ≡ (b && (leb (start_of q) (id_of x) && test))
          by_test true e = rw (le-leb (start_of q) (id_of x) (omega (arith, leb-true id.0 (id_of x) e, (start_climbs page q id l).1)))
          by_test false e = refl

      pub rest_listed : list_of d (next_request q id pages) ≡ drop R L
      unfolding list_of
      rest_listed = sym (keeps_both id_of (from id_of id.0) (asks q) (asks (next_request q id pages)) narrower (shown_all d)) ∙ rest_kept

    -- 15 at least of the device's elements from the start on are behind, and one at least is ahead
    asks_from : (x : Descriptor) → asks q x ≡ true → from id_of (start_of q) x ≡ true
    unfolding asks
    asks_from x e = (both (from id_of (start_of q) x) (takes_type (report_type_of q) x.kind && takes_health (filter_of q) x.health) e).0

    later_from : (x : Descriptor) → from id_of id.0 x ≡ true → from id_of (start_of q) x ≡ true
    later_from x e = le-leb (start_of q) (id_of x) (omega (arith, leb-true id.0 (id_of x) e, (start_climbs page q id l).1))

    kept_long : length (keep (from id_of id.0) (keep (asks q) (shown_all d))) ≡ length L - R
    unfolding list_of
    kept_long = ap length rest_kept ∙ length-drop R L

    list_long : length (keep (asks q) (shown_all d)) ≡ length L
    unfolding list_of
    list_long = refl

    pub fewer_ahead : (1 ≤ length (keep (from id_of id.0) (shown_all d)))
        × (15 + length (keep (from id_of id.0) (shown_all d)) ≤ length (keep (from id_of (start_of q)) (shown_all d)))
    fewer_ahead =
        let two = narrows id_of (from id_of (start_of q)) (from id_of id.0) (asks q) later_from asks_from (shown_all d) in
        (omega (arith, two.1, kept_long, leads_cut), omega (arith, two.0, kept_long, list_long, leads_cut, some_room))
