-- A header and a list stored in another byte order: what each turn of the loop adds, and what it comes to.
use Prim.Native.Nat.{ℕ, ◌+◌, ◌≤◌, ◌<◌}
use mathlib.Core.List.{List, ◌++◌}
use mathlib.Core.Path.{◌≡◌, refl, sym, ap, ◌∙◌}
use native.Mathlib.Omega.{arith}
use lib.ListN.{length, get_or, take, drop, length-map, get_or-map}
use lib.Seq.{take_all}
use Rattle.layout.proofs.Bytes.{header_wide, wide}
use Rattle.layout.proofs.Reserved.{part_read}
use Rattle.layout.specs.Bytes.{header_bytes, header_in, descriptor_bytes, descriptor_in, laid}
use Rattle.layout.specs.declared.Descriptor.{Descriptor}
use Rattle.layout.specs.declared.Header.{Header}
use Rattle.offences.proofs.Laid.{length-laid}
use Rattle.offences.specs.Checks.{base_of, descriptor_at}
use Rattle.slices.proofs.Lists.{length-up_to, up_to_at, length-stored, stored_none, stored_more, stored_each, part_stored}
use Rattle.slices.specs.Lists.{up_to, flat, stored}
use Rattle.strokes.specs.Rows.{row_bytes}
use Rattle.strokes.specs.declared.Row.{Row}
use Rattle.words.specs.declared.Order.{Order}
use Rattle.convert.specs.Convert.{list_in}
use Rattle.convert.specs.Private.{other, Turned}

-- ## The list

module _ (o : Order) (s : List ℕ) (n : ℕ) where
  pub length_list : length (list_in o s n) ≡ n
  length_list = length-map (up_to n) (descriptor_at o s) ∙ length-up_to n

  pub list_at : (k : ℕ) → k < n → get_or (list_in o s n) k (descriptor_at o s 0) ≡ descriptor_at o s k
  list_at k h = get_or-map (descriptor_at o s) (up_to n) k 0 ∙ ap (descriptor_at o s) (up_to_at n k h)

-- ## The loop

-- the first k descriptors are stored behind the header
pub record PutBefore (from to : Order) (s : List ℕ) (count : ℕ) (d x : List ℕ) (k : ℕ) : Type 0 where
  pub long : length x ≡ length d
  pub so : x ≡ stored d 32 (flat (descriptor_bytes to) (take k (list_in from s count)))

module _ (from to : Order) (s : List ℕ) (count : ℕ) (d : List ℕ) where
  pub put_none : PutBefore from to s count d d 0
  put_none = record { long = refl; so = sym (stored_none d 32) }

  module _ (x : List ℕ) (k : ℕ) (before : PutBefore from to s count d x k) (room : base_of count ≤ length d) where
    -- m is 32: a descriptor read in a part of the source, and stored in one of the target
    pub put_on : k < count → (m : ℕ) → m ≡ 32 → (r : Row) → Turned from to (take m (drop (base_of k) s)) r
        → (z : List ℕ) → z ≡ stored (take m (drop (base_of k) x)) 0 (row_bytes r)
        → PutBefore from to s count d (take (base_of k) x ++ (z ++ drop m (drop (base_of k) x))) (k + 1)
    put_on less m is_m r turned z is_z =
        let at : ℕ = base_of k in
        let b : List ℕ = row_bytes r in
        let y : List ℕ = take at x ++ (z ++ drop m (drop at x)) in
        let whole : turned.descriptor ≡ descriptor_in from (drop at s) = turned.read ∙ rw is_m (part_read from (drop at s)) in
        let wide_b : length b ≡ 32 = ap length turned.written ∙ wide to turned.descriptor in
        let put : y ≡ stored x at b = part_stored x b at m (omega (arith, before.long)) (omega arith) z is_z in
        let listed : b ≡ descriptor_bytes to (get_or (list_in from s count) k (descriptor_at from s 0)) =
        turned.written ∙ ap (descriptor_bytes to) (whole ∙ sym (list_at from s count k less)) in
        record {
          long = ap length put ∙ length-stored x b at ∙ before.long;
          so =
              stored_each (descriptor_bytes to) 32 (wide to) (list_in from s count) d x y 32 k (descriptor_at from s 0)
              (omega arith) (omega (arith, length_list from s count)) before.so
              (put ∙ ap (stored x at) listed);
        }

    pub put_all : count ≤ k → to ≡ other from → x ≡ stored d 32 (flat (descriptor_bytes (other from)) (list_in from s count))
    put_all past is_to =
        let l : List Descriptor = list_in from s count in
        let all : take k l ≡ l = take_all k l (omega (arith, length_list from s count)) in
        before.so ∙ (λ i. stored d 32 (flat (descriptor_bytes (is_to i)) (all i)))

-- the header, and the list behind it
pub both_put : (from to t : Order) (s : List ℕ) (count : ℕ) (d₀ d x : List ℕ) (h : Header) (r : Row) → h ≡ header_in from s → t ≡ to → row_bytes r ≡ header_bytes t h
    → d ≡ stored d₀ 0 (row_bytes r) → base_of count ≤ length d₀ → x ≡ stored d 32 (flat (descriptor_bytes to) (list_in from s count)) → x ≡ stored d₀ 0 (laid to (header_in from s) (list_in from s count))
both_put from to t s count d₀ d x h r is_h is_t is_r is_d room is_x =
    let H : List ℕ = header_bytes to (header_in from s) in
    let F : List ℕ = flat (descriptor_bytes to) (list_in from s count) in
    let place : 32 ≡ 0 + length H = omega (arith, header_wide to (header_in from s)) in
    let fits : 0 + length (H ++ F) ≤ length d₀ = omega (arith, length-laid to (header_in from s) (list_in from s count), length_list from s count) in
    is_x
    ∙ (λ i. stored (is_d i) (place i) F)
    ∙ (λ i. stored (stored d₀ 0 ((is_r ∙ (λ j. header_bytes (is_t j) (is_h j))) i)) (0 + length H) F)
    ∙ stored_more d₀ 0 H F fits
