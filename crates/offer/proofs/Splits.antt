-- An offered table, split by loops that make something of each of the first and leave the rest as it was filled.
use Prim.Native.Nat.{ℕ, ◌+◌, ◌-◌, ◌≤◌, ◌<◌}
use mathlib.Core.List.{List, [], ◌∷◌, ◌++◌, map}
use mathlib.Core.Path.{◌≡◌, refl, sym, ap, ◌∙◌}
use native.Mathlib.Numerals.{add-one}
use native.Mathlib.Omega.{arith}
use lib.ListN.{length, take, drop, get_or, set, replicate, length-map}
use lib.Seq.{take-suc, length-take-le, take_at, drop_at}
use Rattle.slices.proofs.Lists.{map-append, map-map, padded, padded_more}
use Rattle.table.specs.Elements.{blank_part, part_ids, identifiers}
use Rattle.table.specs.declared.Part.{Part}
use Rattle.offer.specs.Elements.{offered, element_ids, part_of, blank, table_of}
use Rattle.offer.specs.declared.Element.{Element}
use Rattle.offer.specs.declared.Offer.{Offer}

-- what fills an unused place of an offer fills it in the table too
blank_part_lem : part_of blank ≡ blank_part
blank_part_lem = refl

-- ## What a loop has made of the first i, of up to 128

module _ {A B : Type 0} (f : A → B) (z : B) (es : List A) (d : A) where
  -- made of the first i, and z in the other places
  abbrev pub made : ℕ → List B
  made i = padded z 128 (map f (take i es))

  pub made_next : (i : ℕ) → length es ≤ 128 → i < length es → (out : List B) → out ≡ made i → (b : B) → b ≡ f (get_or es i d) → set out i b ≡ made (i + 1)
  made_next i few less out so b is_b =
      let long : length (map f (take i es)) ≡ i = length-map (take i es) f ∙ length-take-le i es (omega arith) in
      let more : map f (take (i + 1) es) ≡ map f (take i es) ++ (f (get_or es i d) ∷ []) =
      rw (add-one i, take-suc es i d less) (map-append f (take i es) (get_or es i d ∷ [])) in
      let at : set out i b ≡ set (made i) (length (map f (take i es))) (f (get_or es i d)) = rw (so, is_b, long) in
      at ∙ padded_more z 128 (map f (take i es)) (f (get_or es i d)) (omega (arith, long)) ∙ ap (padded z 128) (sym more)

-- ## What an offered table is split into, of up to 128

module _ (o : Offer) (full : length o.elements ≡ 128) (few : o.count ≤ 128) where
  long : {B : Type 0} (f : Element → B) → length (map f (offered o)) ≡ o.count
  long f = length-map (offered o) f ∙ length-take-le o.count o.elements (omega arith)

  -- the places past the count, and those before it
  pub split_past : {B : Type 0} (f : Element → B) (z : B) → drop o.count (map f (offered o) ++ replicate (128 - o.count) z) ≡ replicate (128 - o.count) z
  split_past f z = drop_at (map f (offered o)) (replicate (128 - o.count) z) o.count (long f)

  pub split_front : {B : Type 0} (f : Element → B) (z : B) → take o.count (map f (offered o) ++ replicate (128 - o.count) z) ≡ map f (offered o)
  split_front f z = take_at (map f (offered o)) (replicate (128 - o.count) z) o.count (long f)

  pub built_ids : identifiers (table_of o) ≡ element_ids (offered o)
  built_ids = ap part_ids (split_front part_of blank_part) ∙ map-map part_of (λ (p : Part). p.id.0) (offered o)
