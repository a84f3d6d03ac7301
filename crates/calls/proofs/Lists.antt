-- A list and its offer: with at most 128 records the elements that count are the list's, and with more both are refused.
use Prim.Native.Nat.{ℕ, ◌-◌, ◌≤◌, ◌<◌, min}
use mathlib.Core.Bool.{Bool, true, false, cond, and-false}
use mathlib.Core.List.{List, [], ◌∷◌, ◌++◌}
use mathlib.Core.Path.{◌≡◌, refl, sym, ◌∙◌}
use native.Mathlib.Nat.{min_comm}
use native.Mathlib.Omega.{arith}
use lib.Dec.{leb}
use lib.ListN.{length, take, replicate}
use lib.Seq.{take_all, take_at}
use borrow.Author.Tests.{leb-true, leb-false, le-leb, lt-leb}
use Rattle.std.proofs.Common.{Option, None}
use Rattle.conduct.specs.Promises.{Leaves}
use Rattle.making.specs.Making.{fresh, made_of}
use Rattle.offer.proofs.Laws.{good-ascending, good_count}
use Rattle.offer.proofs.Search.{find_sound, find_member}
use Rattle.offer.specs.Check.{good, check_of}
use Rattle.offer.specs.Elements.{offered, blank, block_sum}
use Rattle.offer.specs.Search.{find}
use Rattle.offer.specs.declared.Element.{Element}
use Rattle.paper.specs.Told.{tells}
use Rattle.slices.proofs.Lists.{take_min}
use Rattle.calls.specs.Offered.{check_list, find_list, array_of, offer_of, made_from}
use Rattle.calls.specs.Promises.{LongListRefused, RefusedListLeaves, MadeAlike, FindsExactly}

-- ## The array

-- what the loop has copied when it ends
pub all_held : (es : List Element) (n : ℕ) → n ≡ min (length es) 128 → take n es ++ replicate (128 - n) blank ≡ array_of es
all_held es n e =
    let less : 128 - n ≡ 128 - length es = omega arith in
    rw (less, e, min_comm (length es) 128, take_min 128 es)

pub taken : (es : List Element) → length es ≤ 128 → take (length es) (array_of es) ≡ es
taken es h = rw (take_all 128 es h) (take_at es (replicate (128 - length es) blank) (length es) refl)

-- ## The check, the making and the search

pub long_bad : (count : ℕ) (es : List Element) (limit : ℕ) → 128 < count → good count es limit ≡ false
unfolding good
long_bad count es limit h = simp (lt-leb count 128 h, and-false)

module _ (es : List Element) (limit : ℕ) where
  -- the check of the offer goes by the list
  alike : {A : Type 0} (f : List Element → A) (x : A)
      → cond (good (length es) (offered (offer_of es limit)) limit) (f (offered (offer_of es limit))) x ≡ cond (good (length es) es limit) (f es) x
  alike {A} f x = go (leb (length es) 128) refl
    where
      go : (b : Bool) → leb (length es) 128 ≡ b
          → cond (good (length es) (offered (offer_of es limit)) limit) (f (offered (offer_of es limit))) x ≡ cond (good (length es) es limit) (f es) x
      go true e = rw (taken es (leb-true (length es) 128 e))
      go false e =
          let long : 128 < length es = leb-false (length es) 128 e in
          rw (long_bad (length es) (offered (offer_of es limit)) limit long, long_bad (length es) es limit long)

  pub check_offer : check_of (offer_of es limit) ≡ check_list es limit
  unfolding check_of check_list
  check_offer = alike (λ (l : List Element). tells 0 (block_sum l ∷ [])) (tells 8 [])

pub find_offer : (es : List Element) (id : ℕ) → cond (leb (length es) 128) (find id (take (length es) (array_of es))) None ≡ find_list id es
unfolding find_list
find_offer es id = go (leb (length es) 128) refl
  where
    go : (b : Bool) → leb (length es) 128 ≡ b → cond b (find id (take (length es) (array_of es))) None ≡ cond b (find id es) None
    go true e = rw (taken es (leb-true (length es) 128 e))
    go false e = refl

-- ## `find_in`

module _ (count : ℕ) (f : Option Element) where
  pub found_long : 128 < count → None ≡ cond (leb count 128) f None
  found_long h = sym (rw (lt-leb count 128 h))

  pub found_within : count ≤ 128 → (r : Option Element) → r ≡ f → r ≡ cond (leb count 128) f None
  found_within h r e = e ∙ sym (rw (le-leb count 128 h))

-- ## What holds of a list (specs/Promises)

pub long_list_refused : LongListRefused
unfolding check_list find_list made_from
long_list_refused d es limit id h = rw (long_bad (length es) es limit h, lt-leb (length es) 128 h) (refl, refl, refl)

pub made_alike : MadeAlike
unfolding made_of made_from
made_alike d es limit = sym (alike es limit (λ (l : List Element). tells 0 (fresh (offer_of es limit))) (tells 8 d))

pub refused_list_leaves : RefusedListLeaves
unfolding made_from
refused_list_leaves d es limit = go (good (length es) es limit)
  where
    go : (b : Bool) → Leaves d (cond b (tells 0 (fresh (offer_of es limit))) (tells 8 d))
    go true z = absurd (z refl)
    go false z = refl

pub finds_exactly : FindsExactly
unfolding find_list
finds_exactly es limit g =
    let few : leb (length es) 128 ≡ true = le-leb (length es) 128 (good_count (length es) es limit g) in
    rw few (λ i h. find_member 0 es i (good-ascending (length es) es limit g) h, λ id e. find_sound id es e)
