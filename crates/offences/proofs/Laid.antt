-- A header and descriptors that are laid, read back in the same order, whatever follows them and wherever they are cut.
use Prim.Native.Nat.{ℕ, ◌+◌, ◌*◌, ◌≤◌, ◌<◌}
use mathlib.Core.List.{List, ◌++◌, append_assoc}
use mathlib.Core.Path.{◌≡◌, sym, ap, ◌∙◌}
use native.Mathlib.Omega.{arith}
use lib.ListN.{length, get_or, take, drop, length-append}
use lib.Seq.{drop-append-add, get_or-take, get_or-drop}
use Rattle.layout.proofs.Bytes.{header_wide, wide, header_back, descriptor_back}
use Rattle.layout.proofs.Reserved.{header_first, descriptor_first}
use Rattle.layout.specs.Bytes.{header_bytes, header_in, descriptor_bytes, descriptor_in, laid}
use Rattle.layout.specs.Promises.{HeaderFits, DescriptorFits}
use Rattle.layout.specs.declared.Descriptor.{Descriptor}
use Rattle.layout.specs.declared.Header.{Header}
use Rattle.slices.proofs.Lists.{length-flat, every_at, after, flat_at}
use Rattle.slices.specs.Lists.{Every, flat}
use Rattle.words.specs.declared.Order.{Order}
use Rattle.offences.specs.Checks.{base_of, descriptor_at}

module _ (o : Order) (h : Header) (l : List Descriptor) where
  pub length-laid : length (laid o h l) ≡ base_of (length l)
  length-laid = length-append (header_bytes o h) (flat (descriptor_bytes o) l) ∙ (λ i. header_wide o h i + length-flat (descriptor_bytes o) 32 (wide o) l i)

  module _ (rest : List ℕ) where
    parts : laid o h l ++ rest ≡ header_bytes o h ++ (flat (descriptor_bytes o) l ++ rest)
    parts = append_assoc (header_bytes o h) (flat (descriptor_bytes o) l) rest

    pub laid_header : HeaderFits h → header_in o (laid o h l ++ rest) ≡ h
    laid_header fits = ap (header_in o) parts ∙ header_back o h (flat (descriptor_bytes o) l ++ rest) fits

    -- descriptor k, and what follows it
    pub laid_at : (k : ℕ) (z : Descriptor) → k < length l
        → drop (base_of k) (laid o h l ++ rest) ≡ descriptor_bytes o (get_or l k z) ++ after (descriptor_bytes o) 32 (wide o) l k rest
    laid_at k z less =
        let place : base_of k ≡ length (header_bytes o h) + 32 * k = omega (arith, header_wide o h) in
        (λ i. drop (place i) (parts i))
        ∙ drop-append-add (header_bytes o h) (flat (descriptor_bytes o) l ++ rest) (32 * k)
        ∙ flat_at (descriptor_bytes o) 32 (wide o) l k z rest less

    pub laid_descriptor : Every DescriptorFits l → (k : ℕ) (z : Descriptor) → k < length l → descriptor_at o (laid o h l ++ rest) k ≡ get_or l k z
    laid_descriptor fits k z less =
        ap (descriptor_in o) (laid_at k z less)
        ∙ descriptor_back o (get_or l k z) (after (descriptor_bytes o) 32 (wide o) l k rest) (every_at DescriptorFits l k z less fits)

-- ## Cut

module _ (o : Order) (s : List ℕ) (n : ℕ) where
  pub cut_header : 32 ≤ n → header_in o (take n s) ≡ header_in o s
  cut_header there = header_first o (take n s) s (λ at h. get_or-take n s at 0 (omega arith))

  pub cut_descriptor : (k : ℕ) → base_of k + 32 ≤ n → descriptor_at o (take n s) k ≡ descriptor_at o s k
  cut_descriptor k there =
      descriptor_first o (drop (base_of k) (take n s)) (drop (base_of k) s)
      (λ at h. get_or-drop (base_of k) (take n s) at 0 ∙ get_or-take n s (base_of k + at) 0 (omega arith) ∙ sym (get_or-drop (base_of k) s at 0))
