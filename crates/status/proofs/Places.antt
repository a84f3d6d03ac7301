-- The list, put down as places of the table: what each turn of the loop adds, and what it comes to.
use Prim.Native.Nat.{ℕ, zero, suc, ◌+◌, ◌*◌, ◌^◌, ◌≤◌, ◌<◌, min}
use mathlib.Core.Bool.{Bool, true, false, cond}
use mathlib.Core.List.{List, [], ◌∷◌, ◌++◌, map, append-nil}
use mathlib.Core.Path.{◌≡◌, refl, sym, ap, ◌∙◌}
use native.Mathlib.Nat.{add-zero}
use native.Mathlib.Numerals.{add-one}
use native.Mathlib.Omega.{arith}
use lib.ListN.{length, take, get_or, set, replicate, length-map, length-set, get_or-map}
use lib.Seq.{length-take-le, take-take, take-set-le, take-suc-set, get_or-take}
use mir.Val.{bool_byte}
use Rattle.device.specs.Record.{health_at}
use Rattle.device.specs.declared.Device.{Device}
use Rattle.layout.specs.declared.Descriptor.{Descriptor}
use Rattle.request.specs.declared.Request.{Request}
use Rattle.slices.proofs.Lists.{keep_append, map-append, map-up_to, every_same, every_set}
use Rattle.slices.specs.Lists.{keep, up_to}
use Rattle.table.proofs.Arrays.{length_taken}
use Rattle.table.specs.Elements.{live, blank_part, size}
use Rattle.table.specs.declared.Part.{Part}
use Rattle.view.specs.Shown.{shown_of, asks}
use Rattle.status.specs.Page.{shown_at, list_of}
use Rattle.status.specs.Private.{Slots, shown_in, shown_there}

take-map : {A B : Type 0} (f : A → B) (n : ℕ) (l : List A) → take n (map f l) ≡ map f (take n l)
take-map f zero l = refl
take-map f (suc n) [] = refl
take-map {A} {B} f (suc n) (x ∷ xs) = ap (λ (l : List B). f x ∷ l) (take-map f n xs)

module _ (ps : List Part) (hs : List ℕ) where
  pub length_there : (places : List ℕ) (n : ℕ) → n ≤ length places → length (shown_there ps hs places n) ≡ n
  unfolding shown_there
  length_there places n few = length-map (take n places) (shown_in ps hs) ∙ length-take-le n places few

  pub at_place : (places : List ℕ) (n k : ℕ) → k < n → shown_in ps hs (get_or places k 0) ≡ get_or (shown_there ps hs places n) k (shown_in ps hs 0)
  unfolding shown_there
  at_place places n k h = sym (get_or-map (shown_in ps hs) (take n places) k 0 ∙ ap (shown_in ps hs) (get_or-take n places k 0 h))

  pub take_there : (places : List ℕ) (n r : ℕ) → r ≤ n → take r (shown_there ps hs places n) ≡ shown_there ps hs places r
  unfolding shown_there
  take_there places n r h = take-map (shown_in ps hs) r (take n places) ∙ ap (map (shown_in ps hs)) (take-take r n places h)

  module _ (q : Request) where
    -- what is asked for of the first i
    unfoldable pub wanted : ℕ → List Descriptor
    wanted i = keep (asks q) (map (shown_in ps hs) (up_to i))

    pub wanted_more : (i : ℕ) → wanted (i + 1) ≡ wanted i ++ cond (asks q (shown_in ps hs i)) (shown_in ps hs i ∷ []) []
    unfolding wanted
    wanted_more i =
        rw (add-one i, map-append (shown_in ps hs) (up_to i) (i ∷ [])) (keep_append (asks q) (map (shown_in ps hs) (up_to i)) (shown_in ps hs i ∷ []))

    -- the places put down are those of what is asked for of the first i
    abbrev pub Listed : List ℕ → ℕ → ℕ → Type 0
    Listed places number i = (shown_there ps hs places number ≡ wanted i) × (number ≤ i) × (length places ≡ 128) × Slots places

    pub list_none : Listed (replicate 128 0) 0 0
    unfolding shown_there wanted
    list_none = (refl, omega arith, refl, every_same (λ (j : ℕ). j < 128) 128 0 (omega arith))

    -- a turn of the loop: the place is put down, and counts if its element is asked for
    module _ (places : List ℕ) (n i : ℕ) (listed : Listed places n i) (low : i < 128) where
      counts : (b : Bool) → asks q (shown_in ps hs i) ≡ b → shown_there ps hs (set places n i) (n + bool_byte b) ≡ wanted (i + 1)
      unfolding shown_there
      counts true y =
          rw (add-one n, take-suc-set places n i (omega (arith, listed)), map-append (shown_in ps hs) (take n places) (i ∷ []), wanted_more i, y, listed.0)
      counts false z = rw (add-zero n, take-set-le n places n i (omega arith), wanted_more i, z, append-nil) listed.0

      pub list_turn : (b : Bool) → b ≡ asks q (shown_of (get_or ps i blank_part) (get_or hs i 0)) → Listed (set places n i) (n + bool_byte b) (i + 1)
      unfolding shown_in
      list_turn b is_b =
          (counts b (sym is_b), less b, length-set places n i ∙ listed.2, every_set (λ (j : ℕ). j < 128) places n i listed.3 low)
        where
          less : (b : Bool) → n + bool_byte b ≤ i + 1
          less true = omega (arith, listed)
          less false = omega (arith, listed)

module _ (places : List ℕ) (slots : Slots places) (k : ℕ) where
  pub slot_below : get_or places k 0 < 128
  slot_below = go places k slots
    where
      go : (l : List ℕ) (i : ℕ) → Slots l → get_or l i 0 < 128
      go [] i s = omega arith
      go (x ∷ xs) zero s = s.0
      go (x ∷ xs) (suc i) s = go xs i s.1

  pub slot_fits : get_or places k 0 < 2 ^ 64
  slot_fits = omega (arith, slot_below)

  pub slot_times : get_or places k 0 * 16 < 2 ^ 64
  slot_times = omega (arith, slot_below)

pub count_fits : (n : ℕ) (b : Bool) → n < 128 → n + bool_byte b < 2 ^ 64
count_fits n true low = omega arith
count_fits n false low = omega arith

-- all of them put down
pub all_listed : (d : Device) (q : Request) (n : ℕ) → length d.table.parts ≡ 128 → n ≡ min d.table.count 128 → wanted d.table.parts d.cells.healths q n ≡ list_of d q
unfolding shown_in wanted list_of
all_listed d q n full is_n =
    let long : size d.table ≡ n = length-map (live d.table) (λ (p : Part). p.id.0) ∙ length_taken d.table.parts d.table.count n full is_n in
    let same : (i : ℕ) → i < n → shown_in d.table.parts d.cells.healths i ≡ shown_at d i =
    λ i h. ap (λ (p : Part). shown_of p (health_at d i)) (sym (get_or-take d.table.count d.table.parts i blank_part (omega arith))) in
    ap (keep (asks q)) (map-up_to (shown_in d.table.parts d.cells.healths) (shown_at d) n same ∙ ap (λ (m : ℕ). map (shown_at d) (up_to m)) (sym long))
