-- Pages that look alike are opened alike (specs/Promises): what is read of a page is the same of both.
use Prim.Native.Nat.{ℕ, ◌/◌}
use mathlib.Core.Bool.{cond}
use mathlib.Core.List.{List}
use mathlib.Core.Path.{◌≡◌}
use lib.Dec.{eqb, ltb}
use Rattle.paper.specs.Told.{tells}
use Rattle.reader.proofs.Reserved.{header_same, descriptor_same, last_same, read_same}
use Rattle.reader.specs.Reserved.{LooksAlike}
use Rattle.request.specs.Requests.{request_for}
use Rattle.request.specs.declared.Request.{Request}
use Rattle.std.proofs.Common.{Some, None}
use Rattle.words.specs.declared.Order.TheVariants.{Little}
use Rattle.reach.specs.Opening.{bound, turn, accepted, open_of, judged}
use Rattle.reach.specs.Pages.{count_of, element_at, reach_of, smallest, bound_of}
use Rattle.reach.specs.Promises.{ReservedUnopened}
use Rattle.reach.specs.declared.Turn.TheVariants.{Older, Newer}

-- ## One page

module _ (s s' : List ℕ) (alike : LooksAlike Little s s') where
  pub count_same : count_of s ≡ count_of s'
  unfolding count_of
  count_same = λ i. (header_same Little s s' alike i).returned

  pub element-same : (k : ℕ) → element_at s k ≡ element_at s' k
  unfolding element_at
  element-same = descriptor_same Little s s' alike

  accepted-same : (q : Request) → accepted s q ≡ accepted s' q
  unfolding accepted
  accepted-same q = λ i. eqb (read_same Little s s' alike q i).number 0

  pub reach_same : reach_of s ≡ reach_of s'
  unfolding reach_of
  reach_same = λ i.
      let h = header_same Little s s' alike i in
      cond (ltb h.returned h.number) (Some (record { 0 = last_same Little s s' alike h.returned i })) None

-- ## Both

module _ (s s' t t' : List ℕ) (older : LooksAlike Little s s') (newer : LooksAlike Little t t') where
  pub bound_same : bound_of s t ≡ bound_of s' t'
  unfolding bound_of
  bound_same = λ i. smallest (reach_same s s' older i) (reach_same t t' newer i)

  open_same : (q : Request) → open_of s t q ≡ open_of s' t' q
  open_same q = λ i.
      cond (accepted-same s s' older q i)
      (cond (accepted-same t t' newer q i) (tells 0 (bound (bound_same i))) (tells 9 (turn Newer)))
      (tells 9 (turn Older))

  judged-same : judged s t ≡ judged s' t'
  unfolding judged
  judged-same = λ i. cond (ltb 65536 (older.long i)) (tells 9 (turn Older)) (open_same (request_for (older.long i / 512)) i)

pub reserved_unopened : ReservedUnopened
reserved_unopened s s' t t' older newer = (open_same s s' t t' older newer, judged-same s s' t t' older newer)
