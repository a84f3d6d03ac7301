-- Pages come for any mix of page counts (specs/Tour): the device's own, as long as they lead on, and then any.
use mathlib.Core.Bool.{false}
use mathlib.Core.List.{List, [], ◌∷◌, map}
use mathlib.Core.Path.{◌≡◌, refl, ap}
use Rattle.paper.specs.Told.{Told}
use Rattle.paper.specs.declared.PageCount.{PageCount}
use Rattle.request.specs.Requests.{refused}
use Rattle.request.specs.declared.Request.{Request}
use Rattle.slices.specs.Lists.{Every}
use Rattle.status.specs.Page.{page_of}
use Rattle.walk.proofs.Pages.{Way, way, refuses, whole, highest, leads, next_asked}
use Rattle.walk.proofs.Walks.{by_value}
use Rattle.walk.specs.Next.{Values, ask, end, place, next_of, next_request}
use Rattle.walk.specs.Walk.{Came, round, followed, walk}
use Rattle.tour.specs.Tour.{Shows, Comes, AnyMix}

-- whatever comes after the walk has stopped
after : List PageCount → List Came
after ps = map (λ (p : PageCount). record { page = []; next = p }) ps

counted : (ps : List PageCount) → map (λ (c : Came). c.next) (after ps) ≡ ps
unfolding after
counted [] = refl
counted (p ∷ ps) = ap (λ (l : List PageCount). p ∷ l) (counted ps)

pub any_mix : AnyMix
unfolding walk
any_mix d q [] ok ones = record { came = []; mix = refl; shown = tt }
any_mix d q (p ∷ ps) ok (one, ones) = go (way (page_of d q) q) (λ next asked. any_mix d next ps asked ones)
  where
    first : Came
    first = record { page = page_of d q; next = p }

    show : Shows d (round q (page_of d q))
    show = record { asked = ok; page = refl }

    shown : (cs : List Came) (v : Values) → (next_of (page_of d q) q).state ≡ v
        → Every (Shows d) (followed (round q (page_of d q)) v (λ id. walk (next_request q id p) cs)).rounds → Every (Shows d) (walk q (first ∷ cs)).rounds
    shown cs = by_value (λ w. Every (Shows d) w.rounds) q first cs

    stops : (v : Values) → (next_of (page_of d q) q).state ≡ v → Every (Shows d) (followed (round q (page_of d q)) v (λ id. walk (next_request q id p) (after ps))).rounds
        → Comes d q (p ∷ ps)
    stops v e last = record { came = first ∷ after ps; mix = ap (λ (l : List PageCount). p ∷ l) (counted ps); shown = shown (after ps) v e last }

    go : Way (page_of d q) q → ((next : Request) → refused next ≡ false → Comes d next ps) → Comes d q (p ∷ ps)
    go (refuses k _ is_next) rest = stops (place k) (ap (λ (u : Told Values). u.state) is_next) (show, tt)
    go (whole _ _ is_next) rest = stops end (ap (λ (u : Told Values). u.state) is_next) (show, tt)
    go (highest _ _ is_next) rest = stops end (ap (λ (u : Told Values). u.state) is_next) (show, tt)
    go (leads id l is_next) rest =
        let on = rest (next_request q id p) (next_asked (page_of d q) q id p l one) in
        record {
          came = first ∷ on.came;
          mix = ap (λ (l : List PageCount). p ∷ l) on.mix;
          shown = shown on.came (ask id) (ap (λ (u : Told Values). u.state) is_next) (show, on.shown);
        }
