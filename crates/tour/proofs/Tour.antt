-- A walk over a device that does not change (specs/Tour): each page has the first elements of its request's list, and the walk from there on
-- lists the rest.
use Prim.Native.Nat.{ℕ, ◌+◌, ◌-◌, ◌*◌, ◌≤◌}
use mathlib.Core.Bool.{true}
use mathlib.Core.List.{List, [], ◌∷◌, ◌++◌, append-nil}
use mathlib.Core.Path.{◌≡◌, refl, ap, subst, subst⁻¹, ◌∙◌}
use native.Mathlib.Omega.{arith}
use lib.ListN.{length, take, drop, length-drop, take-append-drop}
use lib.Seq.{take_all}
use Rattle.conduct.specs.Fits.{Fits}
use Rattle.device.specs.declared.Device.{Device}
use Rattle.layout.specs.Bytes.{header_in, room_of}
use Rattle.layout.specs.declared.Descriptor.{Descriptor}
use Rattle.reach.specs.Opening.{accepted}
use Rattle.request.specs.Requests.{pages_of}
use Rattle.request.specs.declared.Request.{Request}
use Rattle.slices.specs.Lists.{Every}
use Rattle.status.specs.Page.{list_of, page_of}
use Rattle.table.specs.Elements.{identifiers, ascending}
use Rattle.walk.proofs.Pages.{unstopped}
use Rattle.walk.proofs.Walks.{by_way, last_more}
use Rattle.walk.specs.Next.{next_request}
use Rattle.walk.specs.Promises.{Ends, Leads, Last}
use Rattle.walk.specs.Walk.{Came, Round, round, ended, Walked, walk, elements_in, listed}
use Rattle.words.specs.declared.Order.TheVariants.{Little}
use Rattle.tour.specs.Tour.{Shows, WalksWhole}
use Rattle.tour.proofs.Counts.{most, most_some, most_within, within_most, needs_most}
use Rattle.tour.proofs.Pages.{some_room, is_taken, elements_here, whole_here, ends_whole, leads_cut, rest_listed}

-- a page that was not cut short
abbrev Whole : Round → Type 0
Whole r = (header_in Little r.page).number ≡ (header_in Little r.page).returned

abbrev One : Round → Type 0
One r = pages_of r.request ≡ 1

-- the walk of a first request, where m is at least the length of its list
record Toured (d : Device) (q : Request) (m : ℕ) (w : Walked) : Type 0 where
  pub ends : w.stand ≡ ended
  pub whole : listed w ≡ list_of d q
  pub last : Last Whole w.rounds
  pub few : 15 * length w.rounds ≤ 14 + m
  pub met : Every One w.rounds → (1 ≤ length w.rounds) × (length (list_of d q) ≤ 15 * length w.rounds)

module _ (d : Device) (fits : Fits d) (asc : ascending 0 (identifiers d.table) ≡ true) where
  tours : (q : Request) (cs : List Came) (m : ℕ) → 1 ≤ m → length (list_of d q) ≤ m → m ≤ 15 * length cs → Every (Shows d) (walk q cs).rounds → Toured d q m (walk q cs)
  tours q [] m some less few = absurd (omega arith)
  tours q (c ∷ cs) m some less few =
      by_way (λ w. Every (Shows d) w.rounds → Toured d q m w) q c cs
      (λ p is_9 (show, _). absurd (unstopped c.page q p (subst⁻¹ (λ (s : List ℕ). accepted s q ≡ true) show.page (is_taken d fits asc q show.asked)) is_9))
      (λ _ end (show, _).
      let ok = show.asked in
      let all : length L ≤ R = ends_whole d fits asc q ok (subst Ends show.page end) in
      record {
        ends = refl;
        whole = append-nil (elements_in (round q c.page)) ∙ elements show ∙ take_all R L all;
        last = subst⁻¹ (λ (s : List ℕ). Whole (round q s)) show.page (whole_here d fits asc q ok all);
        few = omega (arith, some);
        met = λ (one, _). (omega arith, omega (arith, all, one));
      })
      (λ id l (show, shows).
      let ok = show.asked in
      let led : Leads (page_of d q) q id = subst (λ (s : List ℕ). Leads s q id) show.page l in
      let next : Request = next_request q id c.next in
      let is_rest : list_of d next ≡ drop R L = rest_listed d fits asc q ok id led c.next in
      let long : length (list_of d next) ≡ length L - R = ap length is_rest ∙ length-drop R L in
      let cut = leads_cut d fits asc q ok id led in
      let room = some_room d fits asc q ok in
      let rest = tours next cs (length (list_of d next)) (omega (arith, long, cut)) (omega arith) (omega (arith, long, cut, room, less, few)) shows in
      record {
        ends = rest.ends;
        whole = (λ i. elements show i ++ rest.whole i) ∙ ap (λ (l : List Descriptor). take R L ++ l) is_rest ∙ take-append-drop R L;
        last = last_more Whole (round q c.page) (walk next cs).rounds rest.last;
        few = omega (arith, rest.few, long, cut, room, less);
        met = λ (one, ones). (omega arith, omega (arith, (rest.met ones).1, long, cut, one));
      })
    where
      L : List Descriptor
      L = list_of d q

      R : ℕ
      R = room_of (pages_of q)

      elements : Shows d (round q c.page) → elements_in (round q c.page) ≡ take R L
      elements show = ap (λ (s : List ℕ). elements_in (round q s)) show.page ∙ elements_here d fits asc q show.asked

pub walks_whole : WalksWhole
walks_whole d fits asc q cs shows enough =
    let n : ℕ = length (list_of d q) in
    let k : ℕ = length (walk q cs).rounds in
    let t = tours d fits asc q cs (most n) (most_some n).0 (most_some n).1 (most_within n (length cs) enough) shows in
    let few = within_most n k t.few in
    record {
      ends = t.ends;
      whole = t.whole;
      last = t.last;
      few = few;
      met = λ ones. let (some, many) = t.met ones in omega (arith, few, needs_most n k some many);
    }
