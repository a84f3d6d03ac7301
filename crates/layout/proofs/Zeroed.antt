-- Of each byte that is laid, all is looked at (specs/Promises): a list whose bytes are looked at one after the other computes to the list itself.
use Prim.Native.Nat.{ℕ, zero, suc, ◌%◌}
use mathlib.Core.Bool.{Bool, true, false, cond}
use mathlib.Core.List.{List, [], ◌∷◌}
use mathlib.Core.Path.{◌≡◌, refl, sym, ap, ◌∙◌}
use lib.ListN.{get_or}
use Rattle.slices.specs.Lists.{one}
use Rattle.words.specs.declared.Order.TheVariants.{Little, Big}
use Rattle.words.specs.declared.Order.{Order}
use Rattle.layout.specs.Bytes.{header_bytes, descriptor_bytes}
use Rattle.layout.specs.Promises.{HeaderZeroed, DescriptorZeroed}
use Rattle.layout.specs.Reserved.{in_header, in_descriptor}
use Rattle.layout.specs.declared.Descriptor.{Descriptor}
use Rattle.layout.specs.declared.Header.{Header}

abbrev looked : (ℕ → ℕ → ℕ) → List ℕ → List ℕ
looked seen [] = []
looked seen (b ∷ l) = seen 0 b ∷ looked (λ at. seen (suc at)) l

looked_at : (seen : ℕ → ℕ → ℕ) → ((at : ℕ) → seen at 0 ≡ 0) → (l : List ℕ) (at : ℕ) → get_or (looked seen l) at 0 ≡ seen at (get_or l at 0)
looked_at seen none [] at = sym (none at)
looked_at seen none (b ∷ l) zero = refl
looked_at seen none (b ∷ l) (suc at) = looked_at (λ n. seen (suc n)) (λ n. none (suc n)) l at

-- all of a list is looked at if it is looked at as itself
all_looked : (seen : ℕ → ℕ → ℕ) → ((at : ℕ) → seen at 0 ≡ 0) → (l : List ℕ) → looked seen l ≡ l → (at : ℕ) → seen at (get_or l at 0) ≡ get_or l at 0
all_looked seen none l same at = sym (looked_at seen none l at) ∙ ap (λ (m : List ℕ). get_or m at 0) same

either : (b : Bool) (x : ℕ) → cond b x x ≡ x
either true x = refl
either false x = refl

header_looked : (o : Order) (h : Header) → looked in_header (header_bytes o h) ≡ header_bytes o h
header_looked Little h = refl
header_looked Big h = refl

pub header_zeroed : HeaderZeroed
header_zeroed o h = all_looked in_header (λ at. rw either) (header_bytes o h) (header_looked o h)

bit_looked : (b : Bool) → one b % 2 ≡ one b
bit_looked true = refl
bit_looked false = refl

descriptor_looked : (o : Order) (d : Descriptor) → looked in_descriptor (descriptor_bytes o d) ≡ descriptor_bytes o d
descriptor_looked Little d = rw (bit_looked d.restorable)
descriptor_looked Big d = rw (bit_looked d.restorable)

pub descriptor_zeroed : DescriptorZeroed
descriptor_zeroed o d = all_looked in_descriptor (λ at. rw (either, either)) (descriptor_bytes o d) (descriptor_looked o d)
