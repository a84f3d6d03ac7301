-- The header's and the descriptor's 32 bytes: as the code lays them, and read back. Both orders compute, so each law goes by the order.
use Prim.Native.Nat.{ℕ, ◌+◌, ◌-◌, ◌%◌, ◌≤◌, ◌<◌}
use mathlib.Core.Bool.{Bool, true, false}
use mathlib.Core.List.{List, [], ◌∷◌, ◌++◌}
use mathlib.Core.Path.{◌≡◌, refl, sym, ap, ◌∙◌}
use native.Mathlib.Omega.{arith}
use lib.Dec.{eqb}
use lib.ListN.{length, get_or, take, drop, replicate, length-drop}
use borrow.Author.Tests.{leb-true}
use Rattle.slices.proofs.Lists.{part_end}
use Rattle.slices.specs.Lists.{fits, one}
use Rattle.strokes.specs.Rows.{row_bytes}
use Rattle.words.proofs.Bytes.{low_bytes-value, number-bytes_of, bytes_turned, placed, number_placed}
use Rattle.words.specs.Bytes.{low_bytes, bytes_of, number, number_at}
use Rattle.words.specs.declared.Order.TheVariants.{Little, Big}
use Rattle.words.specs.declared.Order.{Order}
use Rattle.layout.specs.Bytes.{header_bytes, header_in, descriptor_bytes, descriptor_in}
use Rattle.layout.specs.Promises.{HeaderBack, DescriptorBack}
use Rattle.layout.specs.declared.Descriptor.{Descriptor}
use Rattle.layout.specs.declared.Header.{Header}

pub header_wide : (o : Order) (h : Header) → length (header_bytes o h) ≡ 32
header_wide Little h = refl
header_wide Big h = refl

pub wide : (o : Order) (d : Descriptor) → length (descriptor_bytes o d) ≡ 32
wide Little d = refl
wide Big d = refl

-- ## Laid as a row: each number turned, and joined to its neighbour

header_joined : (o : Order) (h : Header)
    → ((bytes_of o 4 h.number ++ bytes_of o 4 h.returned) ++ (bytes_of o 4 h.busy.0 ++ (bytes_of o 2 h.limit ++ bytes_of o 2 h.removed))) ++ replicate 8 0 ++ replicate 8 0
    ≡ header_bytes o h
header_joined Little h = refl
header_joined Big h = refl

pub header_row : (o : Order) (h : Header) (n t b l m e f g : ℕ)
    → n ≡ number o (low_bytes 4 h.number) → t ≡ number o (low_bytes 4 h.returned) → b ≡ number o (low_bytes 4 h.busy.0)
    → l ≡ number o (low_bytes 2 h.limit) → m ≡ number o (low_bytes 2 h.removed)
    → low_bytes 8 f ≡ low_bytes 4 n ++ low_bytes 4 t → low_bytes 4 e ≡ low_bytes 2 l ++ low_bytes 2 m → low_bytes 8 g ≡ low_bytes 4 b ++ low_bytes 4 e
    → row_bytes (record { first = f; second = g; third = 0; fourth = 0 }) ≡ header_bytes o h
unfolding row_bytes
header_row o h n t b l m e f g is_n is_t is_b is_l is_m is_f is_e is_g =
    let ends : low_bytes 4 e ≡ bytes_of o 2 h.limit ++ bytes_of o 2 h.removed =
    is_e ∙ (λ i. bytes_turned o 2 h.limit l is_l i ++ bytes_turned o 2 h.removed m is_m i) in
    let first : low_bytes 8 f ≡ bytes_of o 4 h.number ++ bytes_of o 4 h.returned =
    is_f ∙ (λ i. bytes_turned o 4 h.number n is_n i ++ bytes_turned o 4 h.returned t is_t i) in
    let second : low_bytes 8 g ≡ bytes_of o 4 h.busy.0 ++ (bytes_of o 2 h.limit ++ bytes_of o 2 h.removed) =
    is_g ∙ (λ i. bytes_turned o 4 h.busy.0 b is_b i ++ ends i) in
    (λ i. (first i ++ second i) ++ replicate 8 0 ++ replicate 8 0) ∙ header_joined o h

descriptor_joined : (o : Order) (d : Descriptor)
    → ((replicate 4 0 ++ bytes_of o 4 d.id.0) ++ (replicate 4 0 ++ (0 ∷ one d.restorable ∷ d.kind ∷ d.health ∷ []))) ++ bytes_of o 8 d.capacity ++ replicate 8 0
    ≡ descriptor_bytes o d
descriptor_joined Little d = refl
descriptor_joined Big d = refl

pub descriptor_row : (o : Order) (d : Descriptor) (j q m f g c : ℕ)
    → j ≡ number o (low_bytes 4 d.id.0) → q ≡ one d.restorable → m ≡ number Little (0 ∷ q ∷ d.kind ∷ d.health ∷ [])
    → q < 256 → d.kind < 256 → d.health < 256
    → low_bytes 8 f ≡ low_bytes 4 0 ++ low_bytes 4 j → low_bytes 8 g ≡ low_bytes 4 0 ++ low_bytes 4 m → c ≡ number o (low_bytes 8 d.capacity)
    → row_bytes (record { first = f; second = g; third = c; fourth = 0 }) ≡ descriptor_bytes o d
unfolding row_bytes
descriptor_row o d j q m f g c is_j is_q is_m small_q small_k small_h is_f is_g is_c =
    let marks : low_bytes 4 m ≡ 0 ∷ one d.restorable ∷ d.kind ∷ d.health ∷ [] =
    ap (low_bytes 4) is_m ∙ low_bytes-value (0 ∷ q ∷ d.kind ∷ d.health ∷ []) (omega arith, (small_q, (small_k, (small_h, tt))))
    ∙ ap (λ (x : ℕ). 0 ∷ x ∷ d.kind ∷ d.health ∷ []) is_q in
    let first : low_bytes 8 f ≡ replicate 4 0 ++ bytes_of o 4 d.id.0 = is_f ∙ ap (λ (l : List ℕ). replicate 4 0 ++ l) (bytes_turned o 4 d.id.0 j is_j) in
    let second : low_bytes 8 g ≡ replicate 4 0 ++ (0 ∷ one d.restorable ∷ d.kind ∷ d.health ∷ []) = is_g ∙ ap (λ (l : List ℕ). replicate 4 0 ++ l) marks in
    (λ i. (first i ++ second i) ++ bytes_turned o 8 d.capacity c is_c i ++ replicate 8 0) ∙ descriptor_joined o d

-- ## Read field by field

pub header_fields : (o : Order) (s : List ℕ) (n r b l m : ℕ)
    → n ≡ number_at o 4 s 0 → r ≡ number_at o 4 s 4 → b ≡ number_at o 4 s 8 → l ≡ number_at o 2 s 12 → m ≡ number_at o 2 s 14
    → record { number = n; returned = r; busy = record { 0 = b }; limit = l; removed = m } ≡ header_in o s
header_fields o s n r b l m is_n is_r is_b is_l is_m =
    λ i. record { number = is_n i; returned = is_r i; busy = record { 0 = is_b i }; limit = is_l i; removed = is_m i }

pub descriptor_fields : (o : Order) (s : List ℕ) (i f k h c : ℕ)
    → i ≡ number_at o 4 s 4 → f ≡ get_or s 13 0 → k ≡ get_or s 14 0 → h ≡ get_or s 15 0 → c ≡ number_at o 8 s 16
    → record { id = record { 0 = i }; restorable = eqb (f % 2) 1; kind = k; health = h; capacity = c } ≡ descriptor_in o s
descriptor_fields o s i f k h c is_i is_f is_k is_h is_c =
    λ j. record { id = record { 0 = is_i j }; restorable = eqb (is_f j % 2) 1; kind = is_k j; health = is_h j; capacity = is_c j }

-- of 32 bytes, each looked up
module _ (o : Order) (s : List ℕ) where
  pub header_whole : (n r b l m : ℕ)
      → n ≡ number o (placed 4 s 0) → r ≡ number o (placed 4 s 4) → b ≡ number o (placed 4 s 8)
      → l ≡ number o (placed 2 s 12) → m ≡ number o (placed 2 s 14)
      → record { number = n; returned = r; busy = record { 0 = b }; limit = l; removed = m } ≡ header_in o s
  header_whole n r b l m is_n is_r is_b is_l is_m =
      header_fields o s n r b l m (is_n ∙ number_placed o 4 s 0) (is_r ∙ number_placed o 4 s 4) (is_b ∙ number_placed o 4 s 8)
      (is_l ∙ number_placed o 2 s 12) (is_m ∙ number_placed o 2 s 14)

  pub descriptor_whole : (i c : ℕ) → i ≡ number o (placed 4 s 4) → c ≡ number o (placed 8 s 16)
      → record { id = record { 0 = i }; restorable = eqb (get_or s 13 0 % 2) 1; kind = get_or s 14 0; health = get_or s 15 0; capacity = c } ≡ descriptor_in o s
  descriptor_whole i c is_i is_c =
      descriptor_fields o s i (get_or s 13 0) (get_or s 14 0) (get_or s 15 0) c (is_i ∙ number_placed o 4 s 4) refl refl refl (is_c ∙ number_placed o 8 s 16)

-- from a place on, where 32 bytes fit
module _ (s : List ℕ) (at : ℕ) (b : Bool) (is_b : b ≡ fits 32 at (length s)) (so : b ≡ true) where
  pub place_inside : at ≤ length s
  place_inside = omega (arith, leb-true (at + 32) (length s) (sym is_b ∙ so))

  pub place_there : 32 ≤ length (take (length s - at) (drop at s))
  place_there = rw (part_end s at) (omega (arith, leb-true (at + 32) (length s) (sym is_b ∙ so), length-drop at s))

pub descriptor_from : (o : Order) (s : List ℕ) (at : ℕ) (d : Descriptor) → d ≡ descriptor_in o (take (length s - at) (drop at s)) → d ≡ descriptor_in o (drop at s)
descriptor_from o s at d so = so ∙ ap (descriptor_in o) (part_end s at)

pub descriptor_part : (o : Order) (s u : List ℕ) (at : ℕ) → u ≡ drop at s → (d : Descriptor) → d ≡ descriptor_in o u → d ≡ descriptor_in o (drop at s)
descriptor_part o s u at is_u d is_d = is_d ∙ ap (descriptor_in o) is_u

-- ## What was laid is read back, whatever follows it

header_read : (o : Order) (h : Header) (rest : List ℕ) → header_in o (header_bytes o h ++ rest)
    ≡ record {
      number = number o (bytes_of o 4 h.number);
      returned = number o (bytes_of o 4 h.returned);
      busy = record { 0 = number o (bytes_of o 4 h.busy.0) };
      limit = number o (bytes_of o 2 h.limit);
      removed = number o (bytes_of o 2 h.removed);
    }
header_read Little h rest = refl
header_read Big h rest = refl

pub header_back : HeaderBack
header_back o h rest fits =
    header_read o h rest
    ∙ λ i. record {
      number = number-bytes_of o 4 h.number fits.number i;
      returned = number-bytes_of o 4 h.returned fits.returned i;
      busy = record { 0 = number-bytes_of o 4 h.busy.0 fits.busy i };
      limit = number-bytes_of o 2 h.limit fits.limit i;
      removed = number-bytes_of o 2 h.removed fits.removed i;
    }

bit_back : (b : Bool) → eqb (one b % 2) 1 ≡ b
bit_back true = refl
bit_back false = refl

descriptor_read : (o : Order) (d : Descriptor) (rest : List ℕ) → descriptor_in o (descriptor_bytes o d ++ rest)
    ≡ record {
      id = record { 0 = number o (bytes_of o 4 d.id.0) };
      restorable = eqb (one d.restorable % 2) 1;
      kind = d.kind;
      health = d.health;
      capacity = number o (bytes_of o 8 d.capacity);
    }
descriptor_read Little d rest = refl
descriptor_read Big d rest = refl

pub descriptor_back : DescriptorBack
descriptor_back o d rest fits =
    descriptor_read o d rest
    ∙ λ i. record {
      id = record { 0 = number-bytes_of o 4 d.id.0 fits.id i };
      restorable = bit_back d.restorable i;
      kind = d.kind;
      health = d.health;
      capacity = number-bytes_of o 8 d.capacity fits.capacity i;
    }
