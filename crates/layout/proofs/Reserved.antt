-- Reserved bytes are not looked at (specs/Promises): each field goes by its own bytes, and these are looked at.
use Prim.Native.Nat.{ℕ, zero, suc, ◌-◌, ◌≤◌, ◌<◌}
use mathlib.Core.Bool.{Bool, true, false, and-false}
use mathlib.Core.List.{List, [], ◌∷◌, ◌++◌}
use mathlib.Core.Path.{◌≡◌, refl, sym, ap, ◌∙◌}
use native.Mathlib.Omega.{arith}
use lib.Dec.{eqb, leb, ltb}
use lib.ListN.{length, take, get_or, replicate}
use lib.Seq.{get_or-take}
use borrow.Author.Tests.{lt-leb, ne_eqb, ltb-true, ltb-false}
use Rattle.std.proofs.lemmas.List.{drop-replicate}
use Rattle.slices.proofs.Lists.{stored-front}
use Rattle.slices.specs.Lists.{stored}
use Rattle.words.proofs.Bytes.{number_same}
use Rattle.words.specs.declared.Order.{Order}
use Rattle.layout.specs.Bytes.{header_in, descriptor_in}
use Rattle.layout.specs.Promises.{HeaderReserved, DescriptorReserved}
use Rattle.layout.specs.Reserved.{in_header, in_descriptor, DescriptorsAlike}

pub header_reserved : HeaderReserved
header_reserved o s t alike =
    λ i. record {
      number = number_same s t o 4 0 (alike 0, (alike 1, (alike 2, (alike 3, tt)))) i;
      returned = number_same s t o 4 4 (alike 4, (alike 5, (alike 6, (alike 7, tt)))) i;
      busy = record { 0 = number_same s t o 4 8 (alike 8, (alike 9, (alike 10, (alike 11, tt)))) i };
      limit = number_same s t o 2 12 (alike 12, (alike 13, tt)) i;
      removed = number_same s t o 2 14 (alike 14, (alike 15, tt)) i;
    }

pub descriptor_reserved : DescriptorReserved
descriptor_reserved o s t alike =
    λ i. record {
      id = record { 0 = number_same s t o 4 4 (alike 4, (alike 5, (alike 6, (alike 7, tt)))) i };
      restorable = eqb (alike 13 i) 1;
      kind = alike 14 i;
      health = alike 15 i;
      capacity = number_same s t o 8 16 (alike 16, (alike 17, (alike 18, (alike 19, (alike 20, (alike 21, (alike 22, (alike 23, tt)))))))) i;
    }

-- ## The first 32 bytes

header_past : (at b : ℕ) → 32 ≤ at → in_header at b ≡ 0
header_past at b h = rw (lt-leb at 15 (omega arith), and-false (leb 0 at))

descriptor_past : (at b : ℕ) → 32 ≤ at → in_descriptor at b ≡ 0
descriptor_past at b h =
    rw (lt-leb at 7 (omega arith), lt-leb at 23 (omega arith), and-false (leb 4 at), and-false (leb 14 at), ne_eqb at 13 (λ e. omega arith))

-- a test that counts what lies past them as 0 sees lists alike that agree in them
seen_alike : (seen : ℕ → ℕ → ℕ) → ((at b : ℕ) → 32 ≤ at → seen at b ≡ 0) → (s t : List ℕ) → ((at : ℕ) → at < 32 → get_or s at 0 ≡ get_or t at 0)
    → (at : ℕ) → seen at (get_or s at 0) ≡ seen at (get_or t at 0)
seen_alike seen past s t same at = by_test (ltb at 32) refl
  where
    by_test : (b : Bool) → ltb at 32 ≡ b → seen at (get_or s at 0) ≡ seen at (get_or t at 0)
    by_test true e = ap (seen at) (same at (ltb-true at 32 e))
    by_test false e = past at (get_or s at 0) (ltb-false at 32 e) ∙ sym (past at (get_or t at 0) (ltb-false at 32 e))

module _ (o : Order) (s t : List ℕ) (same : (at : ℕ) → at < 32 → get_or s at 0 ≡ get_or t at 0) where
  pub header_first : header_in o s ≡ header_in o t
  header_first = header_reserved o s t (seen_alike in_header header_past s t same)

  pub descriptor_first : descriptor_in o s ≡ descriptor_in o t
  descriptor_first = descriptor_reserved o s t (seen_alike in_descriptor descriptor_past s t same)

-- ## Fewer bytes than 32, and zeros after them

zero_at : (k at : ℕ) → get_or (replicate {A = ℕ} k 0) at 0 ≡ 0
zero_at zero at = refl
zero_at (suc k) zero = refl
zero_at (suc k) (suc at) = zero_at k at

zeros_after : (s : List ℕ) (k at : ℕ) → get_or (s ++ replicate k 0) at 0 ≡ get_or s at 0
zeros_after [] k at = zero_at k at
zeros_after (b ∷ s) k zero = refl
zeros_after (b ∷ s) k (suc at) = zeros_after s k at

padded_same : (s p : List ℕ) → length s < 32 → p ≡ stored (replicate 32 0) 0 s → (at : ℕ) → at < 32 → get_or p at 0 ≡ get_or s at 0
padded_same s p short is_p at h =
    let zeros : p ≡ s ++ replicate (32 - length s) 0 = is_p ∙ stored-front (replicate 32 0) s (omega arith) ∙ ap (λ (z : List ℕ). s ++ z) (drop-replicate (length s) 32 0) in
    rw zeros (zeros_after s (32 - length s) at)

module _ (o : Order) (s p : List ℕ) (short : length s < 32) (is_p : p ≡ stored (replicate 32 0) 0 s) where
  pub header_padded : header_in o p ≡ header_in o s
  header_padded = header_first o p s (padded_same s p short is_p)

  pub descriptor_padded : descriptor_in o p ≡ descriptor_in o s
  descriptor_padded = descriptor_first o p s (padded_same s p short is_p)

-- ## The first 32 of more

pub part_alike : (l : List ℕ) → DescriptorsAlike (take 32 l) l
part_alike l = seen_alike in_descriptor descriptor_past (take 32 l) l (λ at h. get_or-take 32 l at 0 h)

pub part_read : (o : Order) (l : List ℕ) → descriptor_in o (take 32 l) ≡ descriptor_in o l
part_read o l = descriptor_reserved o (take 32 l) l (part_alike l)

pub part_placed : (o : Order) (l : List ℕ) (n : ℕ) → n ≡ 32 → descriptor_in o (take n l) ≡ descriptor_in o l
part_placed o l n e = ap (λ (m : ℕ). descriptor_in o (take m l)) e ∙ part_read o l
