-- Kept pages that look alike have one reading (specs/Promises): one judgement, and one descriptor at every number.
use Prim.Native.Nat.{ℕ, zero, suc, ◌≤◌}
use mathlib.Core.List.{List, ◌++◌}
use mathlib.Core.Path.{◌≡◌, refl, sym, ap, ◌∙◌}
use native.Mathlib.Omega.{arith}
use lib.ListN.{length}
use lib.Seq.{take_all}
use Rattle.paper.specs.Told.{Told}
use Rattle.reader.proofs.Reserved.{reserved_unseen}
use Rattle.reader.specs.Judgement.{Values, header, place, read_of, slot_of}
use Rattle.reader.specs.Reserved.{LooksAlike}
use Rattle.request.specs.declared.Request.{Request}
use Rattle.rows.specs.Rows.{header_line}
use Rattle.text.specs.Text.{ascii}
use Rattle.words.specs.declared.Order.TheVariants.{Little}
use Rattle.contents.specs.Contents.{slot_line, slots_below, reading_for, reading_of}
use Rattle.contents.specs.Promises.{ReservedUnsaid}

module _ (s t : List ℕ) (alike : LooksAlike Little s t) where
  slots_same : (n : ℕ) → slots_below (slot_of Little s) n ≡ slots_below (slot_of Little t) n
  slots_same zero = refl
  slots_same (suc n) = λ i. slots_same n i ++ slot_line ((reserved_unseen Little s t alike).1 n i)

  for_same : (v : Values) → reading_for s v ≡ reading_for t v
  for_same (header h) = ap (λ (l : List ℕ). ascii "0\n" ++ header_line h ++ l) (slots_same h.returned)
  for_same (place p) = refl

whole : (s : List ℕ) → length s ≤ 65536 → (q : Request) → reading_of s q ≡ reading_for s (read_of Little s q).state
unfolding reading_of
whole s short q = rw (take_all 65536 s short)

pub reserved_unsaid : ReservedUnsaid
reserved_unsaid s t short alike q =
    let as_short : length t ≤ 65536 = omega (arith, alike.long) in
    whole s short q
    ∙ for_same s t alike (read_of Little s q).state
    ∙ ap (λ (r : Told Values). reading_for t r.state) ((reserved_unseen Little s t alike).0 q)
    ∙ sym (whole t as_short q)
