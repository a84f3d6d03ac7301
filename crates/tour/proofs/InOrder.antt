-- What a walk lists ascends (specs/Tour): a page's identifiers do, from its start on, and the next start is above the last.
use Prim.Native.Nat.{ℕ, zero, suc, ◌≤◌, ◌<◌}
use mathlib.Core.Bool.{true}
use mathlib.Core.List.{List, [], ◌∷◌, ◌++◌, map, append_assoc}
use mathlib.Core.Path.{◌≡◌, refl, ap, ◌∙◌}
use native.Mathlib.Omega.{arith}
use borrow.Author.Tests.{lt-ltb}
use Rattle.layout.specs.Bytes.{header_in}
use Rattle.layout.specs.declared.Descriptor.{Descriptor}
use Rattle.offences.specs.Checks.{descriptor_at, last_before}
use Rattle.paper.specs.Told.{tells}
use Rattle.reach.specs.Opening.{accepted}
use Rattle.reader.proofs.Taken.{Taken}
use Rattle.reader.specs.Judgement as reader
use Rattle.request.specs.Requests.{start_of}
use Rattle.request.specs.declared.Request.{Request}
use Rattle.slices.proofs.Lists.{map-append}
use Rattle.table.specs.Elements.{ascending}
use Rattle.walk.proofs.Pages.{page_taken, led_last}
use Rattle.walk.proofs.Walks.{by_way, start_next}
use Rattle.walk.specs.Next.{next_request}
use Rattle.walk.specs.Walk.{Came, round, walk, held_below, elements_in, listed}
use Rattle.words.specs.declared.Order.TheVariants.{Little}
use Rattle.tour.specs.Tour.{ListsInOrder}

abbrev ids : List Descriptor → List ℕ
ids l = map (λ (x : Descriptor). x.id.0) l

-- ## A page, and what follows it

module _ (s : List ℕ) (q : Request) (page : Taken Little s q) (low : ℕ) (under : (id : ℕ) → 1 ≤ id → start_of q ≤ id → low < id) where
  -- the identifier before a place; before the first, what all of them are above
  below : ℕ → ℕ
  below zero = low
  below (suc n) = last_before Little s (suc n)

  below_last : (n : ℕ) → 1 ≤ n → below n ≡ last_before Little s n
  unfolding below
  below_last zero some = absurd (omega arith)
  below_last (suc n) some = refl

  climbs : (n : ℕ) → n < (header_in Little s).returned → below n < (descriptor_at Little s n).id.0
  unfolding below
  climbs zero less = let d = page.list 0 less in under (descriptor_at Little s 0).id.0 d.some d.started
  climbs (suc n) less = (page.list (suc n) less).rises

  one_more : (n : ℕ) (rest : List ℕ) → n < (header_in Little s).returned
      → ids (held_below s (suc n)) ++ rest ≡ ids (held_below s n) ++ ((descriptor_at Little s n).id.0 ∷ rest)
  one_more n rest less =
      rw (lt-ltb n (header_in Little s).returned less)
      (ap (λ (l : List ℕ). l ++ rest) (map-append (λ (x : Descriptor). x.id.0) (held_below s n) (descriptor_at Little s n ∷ []))
      ∙ append_assoc (ids (held_below s n)) ((descriptor_at Little s n).id.0 ∷ []) rest)

  ascends : (n : ℕ) (rest : List ℕ) → n ≤ (header_in Little s).returned → ascending (below n) rest ≡ true → ascending low (ids (held_below s n) ++ rest) ≡ true
  unfolding below
  ascends zero rest less asc = asc
  ascends (suc n) rest less asc =
      rw (one_more n rest (omega (arith, less))) (ascends n ((descriptor_at Little s n).id.0 ∷ rest) (omega (arith, less)) (rw (lt-ltb _ _ (climbs n (omega (arith, less)))) asc))

-- ## The whole walk

taken_held : (q : Request) (s : List ℕ) → accepted s q ≡ true → elements_in (round q s) ≡ held_below s (header_in Little s).returned
unfolding elements_in
taken_held q s ok = rw ok

refused_none : (q : Request) (s : List ℕ) (p : ℕ) → reader.read_of Little s q ≡ tells 9 (reader.place p) → elements_in (round q s) ≡ []
unfolding elements_in accepted
refused_none q s p is_9 = rw is_9

rises : (q : Request) (cs : List Came) (low : ℕ) → ((id : ℕ) → 1 ≤ id → start_of q ≤ id → low < id) → ascending low (ids (listed (walk q cs))) ≡ true
unfolding walk
rises q [] low under = refl
rises q (c ∷ cs) low under =
    by_way (λ w. ascending low (ids (listed w)) ≡ true) q c cs
    (λ p is_9. rw (refused_none q c.page p is_9) refl)
    (λ ok end. after ok [] refl)
    (λ id l.
    let next : Request = next_request q id c.next in
    let page = page_taken c.page q l.taken in
    let last : below c.page q page low under n ≡ last_before Little c.page n = below_last c.page q page low under n (omega (arith, l.some)) in
    after l.taken (listed (walk next cs))
    (rises next cs (below c.page q page low under n)
    (λ k some start. omega (arith, last, led_last c.page q id l, start, start_next q c.page id c.next l))))
  where
    n : ℕ
    n = (header_in Little c.page).returned

    after : (ok : accepted c.page q ≡ true) (rest : List Descriptor)
        → ascending (below c.page q (page_taken c.page q ok) low under n) (ids rest) ≡ true → ascending low (ids (elements_in (round q c.page) ++ rest)) ≡ true
    after ok rest asc =
        rw (taken_held q c.page ok, map-append (λ (x : Descriptor). x.id.0) (held_below c.page n) rest)
        (ascends c.page q (page_taken c.page q ok) low under n (ids rest) (omega arith) asc)

pub lists_in_order : ListsInOrder
lists_in_order q cs = rises q cs 0 (λ id some start. some)
