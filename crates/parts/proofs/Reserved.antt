-- Of pages that look alike a line hands out descriptors that are alike (specs/Promises): of each page there is one or there is none.
use Prim.Native.Nat.{ℕ, ◌-◌}
use mathlib.Core.Bool.{Bool, true, false, cond}
use mathlib.Core.List.{List, []}
use mathlib.Core.Path.{◌≡◌, refl, sym, ap, ◌∙◌}
use lib.Dec.{ltb}
use lib.ListN.{length, take, drop, length-drop}
use Rattle.compare.specs.declared.Line.TheVariants.{OnlyOlder, OnlyNewer, Changed}
use Rattle.layout.proofs.Reserved.{part_alike}
use Rattle.layout.specs.Reserved.{DescriptorsAlike}
use Rattle.offences.specs.Checks.{base_of}
use Rattle.reach.proofs.Reserved.{count_same}
use Rattle.reach.specs.Pages.{count_of}
use Rattle.reader.proofs.Reserved.{list_alike}
use Rattle.reader.specs.Reserved.{LooksAlike}
use Rattle.words.specs.declared.Order.TheVariants.{Little}
use Rattle.parts.specs.Parts.{descriptor_part}
use Rattle.parts.specs.Promises.{HandsOutAlike}

-- by the same two tests
tested_alike : (a b : Bool) (l m : List ℕ) → DescriptorsAlike l m → DescriptorsAlike (cond a (cond b [] l) []) (cond a (cond b [] m) [])
tested_alike true true l m alike = λ at. refl
tested_alike true false l m alike = alike
tested_alike false b l m alike = λ at. refl

module _ (s s' : List ℕ) (alike : LooksAlike Little s s') (k : ℕ) where
  rest_long : length (drop (base_of k) s) ≡ length (drop (base_of k) s')
  rest_long = length-drop (base_of k) s ∙ ap (λ (n : ℕ). n - base_of k) alike.long ∙ sym (length-drop (base_of k) s')

  descriptor_alike : DescriptorsAlike (descriptor_part s k) (descriptor_part s' k)
  unfolding descriptor_part
  descriptor_alike =
      let l : List ℕ = drop (base_of k) s in
      let m : List ℕ = drop (base_of k) s' in
      rw (count_same s s' alike, rest_long)
      (tested_alike (ltb k (count_of s')) (ltb (length m) 32) (take 32 l) (take 32 m)
      (λ at. part_alike l at ∙ list_alike Little s s' alike k at ∙ sym (part_alike m at)))

pub hands_out_alike : HandsOutAlike
hands_out_alike s s' t t' older newer (OnlyOlder k) = descriptor_alike s s' older k
hands_out_alike s s' t t' older newer (OnlyNewer k) = descriptor_alike t t' newer k
hands_out_alike s s' t t' older newer (Changed c) = descriptor_alike t t' newer c.newer
