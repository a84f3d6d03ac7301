-- What holds of every part (specs/Promises).
use Prim.Native.Nat.{ℕ, zero, suc, ◌*◌, ◌≤◌}
use mathlib.Core.Bool.{Bool, true, false, cond}
use mathlib.Core.List.{List, [], ◌∷◌, ◌++◌}
use mathlib.Core.Path.{◌≡◌, refl, ap, ◌∙◌}
use native.Mathlib.Omega.{arith}
use lib.ListN.{length, take, drop, length-drop}
use lib.Seq.{length-take-le}
use borrow.Author.Tests.{lt-ltb, le-ltb}
use Rattle.compare.proofs.Ascending.{is_taken, count_room}
use Rattle.compare.proofs.EveryComparison.{stands_for}
use Rattle.compare.specs.Differences.{alike, Standing, absent, stands, standing, difference, difference_at, differences_in, differences_of}
use Rattle.compare.specs.Promises.{id_of}
use Rattle.compare.specs.declared.Line.TheVariants.{OnlyOlder, OnlyNewer, Changed}
use Rattle.compare.specs.declared.Line.{Line}
use Rattle.layout.proofs.Reserved.{part_read}
use Rattle.layout.specs.Bytes.{descriptor_in}
use Rattle.layout.specs.declared.Descriptor.{Descriptor}
use Rattle.offences.specs.Checks.{base_of}
use Rattle.paper.specs.declared.ElementId.{ElementId}
use Rattle.reach.specs.Opening.{accepted}
use Rattle.reach.specs.Pages.{count_of, element_at, bound_of, end_of}
use Rattle.request.specs.Requests.{pages_of}
use Rattle.request.specs.declared.Request.{Request}
use Rattle.slices.specs.Lists.{Every}
use Rattle.words.specs.declared.Order.TheVariants.{Little}
use Rattle.parts.specs.Parts.{descriptor_part, part_of}
use Rattle.parts.specs.Promises.{HandsOut, HandsOutEach}

pub hands_out : HandsOut
unfolding descriptor_part element_at
hands_out s q k is_accepted l =
    let long : length s ≡ 512 * pages_of q = (is_taken s q is_accepted).long in
    let room : 32 ≤ length (drop (base_of k) s) = omega (arith, l, long, count_room s q is_accepted, length-drop (base_of k) s) in
    let whole : descriptor_part s k ≡ take 32 (drop (base_of k) s) = rw (lt-ltb k (count_of s) l, le-ltb (length (drop (base_of k) s)) 32 room) in (
      ap length whole ∙ length-take-le 32 (drop (base_of k) s) room,
      ap (descriptor_in Little) whole ∙ part_read Little (drop (base_of k) s),
    )

module _ (s t : List ℕ) (q : Request) (of_s : accepted s q ≡ true) (of_t : accepted t q ≡ true) where
  -- what is promised of a line
  abbrev Handed : Line → Type 0
  Handed l = (length (part_of s t l) ≡ 32) × ((descriptor_in Little (part_of s t l)).id ≡ id_of s t l)

  of_older : (id : ElementId) (i : ℕ) → standing s id ≡ stands i → Handed (OnlyOlder i)
  of_older id i e = let (long, equal) = hands_out s q i of_s ((stands_for s id i).0 e).0 in (long, ap (λ (d : Descriptor). d.id) equal)

  of_newer : (id : ElementId) (j : ℕ) → standing t id ≡ stands j → Handed (OnlyNewer j)
  of_newer id j e = let (long, equal) = hands_out t q j of_t ((stands_for t id j).0 e).0 in (long, ap (λ (d : Descriptor). d.id) equal)

  every_both : (ls ms : List Line) → Every Handed ls → Every Handed ms → Every Handed (ls ++ ms)
  every_both [] ms p q = q
  every_both (l ∷ ls) ms (h, p) q = (h, every_both ls ms p q)

  handed_at : (id : ElementId) → Every Handed (difference_at s t id)
  unfolding difference_at
  handed_at id = by_standings (standing s id) (standing t id) (of_older id) (of_newer id)
    where
      by_alike : (b : Bool) (l : Line) → Handed l → Every Handed (cond b [] (l ∷ []))
      by_alike true l h = tt
      by_alike false l h = (h, tt)

      by_standings : (x y : Standing) → ((i : ℕ) → x ≡ stands i → Handed (OnlyOlder i)) → ((j : ℕ) → y ≡ stands j → Handed (OnlyNewer j))
          → Every Handed (difference s t x y)
      by_standings absent absent p q = tt
      by_standings (stands i) absent p q = (p i refl, tt)
      by_standings absent (stands j) p q = (q j refl, tt)
      by_standings (stands i) (stands j) p q = by_alike (alike (element_at s i) (element_at t j)) (Changed (record { older = i; newer = j })) (q j refl)

  handed_in : (n from : ℕ) → Every Handed (differences_in s t from n)
  unfolding differences_in
  handed_in zero from = tt
  handed_in (suc n) from =
      every_both (difference_at s t (record { 0 = from })) (differences_in s t (suc from) n) (handed_at (record { 0 = from })) (handed_in n (suc from))

pub hands_out_each : HandsOutEach
unfolding differences_of
hands_out_each s t q of_s of_t = handed_in s t q of_s of_t (end_of (bound_of s t)).0 1
