-- The list and the page: a law for each way out, and the page put together from what its parts store.
use Prim.Native.Nat.{ℕ, ◌+◌, ◌-◌, ◌*◌, ◌/◌, ◌≤◌, ◌<◌, min}
use mathlib.Core.Bool.{Bool}
use mathlib.Core.List.{List, ◌++◌, map}
use mathlib.Core.Path.{◌≡◌, refl, sym, ap, ◌∙◌}
use native.Mathlib.Omega.{arith}
use lib.ListN.{length, take, drop, get_or, set, replicate, length-append, length-replicate, get_or-map}
use lib.Seq.{length-take-le, take_all, take-length}
use borrow.Author.Tests.{eq-eqb, ne_eqb}
use mir.Val.{bool_byte}
use Rattle.device.specs.Record.{removed_number}
use Rattle.device.specs.declared.Device.{Device}
use Rattle.layout.proofs.Bytes.{wide}
use Rattle.layout.specs.Bytes.{header_bytes, descriptor_bytes, laid, room_of, returned_of}
use Rattle.layout.specs.declared.Descriptor.{Descriptor}
use Rattle.layout.specs.declared.Header.{Header}
use Rattle.paper.specs.Answers.{number_of}
use Rattle.paper.specs.Told.{said}
use Rattle.paper.specs.declared.Answer.{Answer}
use Rattle.paper.specs.declared.ElementId.{ElementId}
use Rattle.paper.specs.declared.Security.{Security}
use Rattle.request.specs.Requests.{pages_of, status_number}
use Rattle.request.specs.declared.Request.{Request}
use Rattle.slices.proofs.Lists.{take_min, map-map, map-up_to, map_places, stored-front, stored_more, stored_each, length-flat}
use Rattle.slices.specs.Lists.{up_to, flat, stored}
use Rattle.strokes.proofs.Strokes.{times_zero}
use Rattle.strokes.specs.Rows.{times}
use Rattle.table.specs.Elements.{live, blank_part, identifiers, size, identifier_at}
use Rattle.table.specs.declared.Part.{Part}
use Rattle.view.specs.Shown.{shown_of, asks, busy_of}
use Rattle.words.specs.declared.Order.TheVariants.{Little}
use Rattle.status.specs.Page.{shown_at, shown_all, list_of, headed, header_of, page_of, shown}
use Rattle.status.specs.Private.{Slots, shown_in, shown_there}
use Rattle.status.specs.Promises.{KeepsIdentifier}
use Rattle.status.proofs.Places.{length_there, at_place, take_there, Listed, list_turn, all_listed}

-- ## The identifier

pub keeps_identifier : KeepsIdentifier
unfolding shown_of
keeps_identifier d place = sym (get_or-map (λ (p : Part). p.id.0) (live d.table) place blank_part)

pub shown_ids : (d : Device) → map (λ (x : Descriptor). x.id.0) (shown_all d) ≡ identifiers d.table
shown_ids d =
    map-map (shown_at d) (λ (x : Descriptor). x.id.0) (up_to (size d.table))
    ∙ map-up_to (λ (i : ℕ). (shown_at d i).id.0) (identifier_at d.table) (size d.table) (λ i _. keeps_identifier d i)
    ∙ map_places (identifiers d.table) 0 (size d.table) (omega arith) ∙ take-length (identifiers d.table)

-- ## The header

pub header_made : (d : Device) (n r g : ℕ) (x : ElementId) → x ≡ record { 0 = busy_of d.cells.note } → g ≡ removed_number d
    → record { number = n; returned = r; busy = x; limit = d.table.limit; removed = g } ≡ headed n r d.cells.note d.table.limit (removed_number d)
header_made d n r g x is_x is_g = λ i. record { number = n; returned = r; busy = is_x i; limit = d.table.limit; removed = is_g i }

-- ## The page, put together from what is stored

module _ (d : Device) (q : Request) (h : Header) (l : List Descriptor) (r : ℕ) (is_r : r ≡ returned_of (length (list_of d q)) (pages_of q))
    (is_h : h ≡ header_of d q) (is_l : l ≡ take r (list_of d q)) (some : 1 ≤ pages_of q) where
  cut : take (room_of (pages_of q)) (list_of d q) ≡ l
  cut =
      let less : r ≡ min (room_of (pages_of q)) (length (list_of d q)) = omega (arith, is_r) in
      sym (take_min (room_of (pages_of q)) (list_of d q)) ∙ rw (← less, ← is_l)

  together : (b b₁ b₂ b₃ : List ℕ) → 512 * pages_of q ≤ length b → b₁ ≡ stored b 0 (header_bytes Little h) → b₂ ≡ stored b₁ 32 (flat (descriptor_bytes Little) l)
      → b₃ ≡ stored b₂ (32 + 32 * r) (replicate (512 * pages_of q - (32 + 32 * r)) 0) → b₃ ≡ page_of d q ++ drop (512 * pages_of q) b
  unfolding page_of
  together b b₁ b₂ b₃ large is_b₁ is_b₂ is_b₃ =
      let f : List ℕ = flat (descriptor_bytes Little) l in
      let g : List ℕ = laid Little h l in
      let z : List ℕ = replicate (512 * pages_of q - (32 + 32 * r)) 0 in
      let few : length l ≡ r = ap length is_l ∙ length-take-le r (list_of d q) (omega (arith, is_r)) in
      let wide_list : length f ≡ 32 * r = length-flat (descriptor_bytes Little) 32 (wide Little) l ∙ rw few in
      let wide_both : length g ≡ 32 + 32 * r = length-append (header_bytes Little h) f ∙ rw wide_list in
      let wide_all : length (g ++ z) ≡ 512 * pages_of q = rw (length-append g z, wide_both, length-replicate) (omega (arith, is_r)) in
      let first : ◌≡◌ {A = ℕ} 32 (0 + length (header_bytes Little h)) = refl in
      let second : 32 + 32 * r ≡ 0 + length g = omega (arith, wide_both) in
      let two : b₂ ≡ stored b 0 g = is_b₂ ∙ (λ i. stored (is_b₁ i) (first i) f) ∙ stored_more b 0 (header_bytes Little h) f (omega (arith, wide_both, is_r)) in
      let three : b₃ ≡ stored b 0 (g ++ z) = is_b₃ ∙ (λ i. stored (two i) (second i) z) ∙ stored_more b 0 g z (omega (arith, wide_all)) in
      let zeros : 512 * pages_of q - (32 + 32 * r) ≡ 512 * pages_of q - 32 * ((header_of d q).returned + 1) = rw is_r (omega arith) in
      let whole : g ++ z ≡ page_of d q = λ i. laid Little (is_h i) (sym cut i) ++ replicate (zeros i) 0 in
      three ∙ stored-front b (g ++ z) (omega (arith, wide_all)) ∙ (λ i. whole i ++ drop (wide_all i) b)

-- ## What is collected, and filled in

-- at most 128 are listed, so the number that fills the rows up is 0
pub zeros_put : (number r pages : ℕ) (b out : List ℕ) → number ≤ 128 → r + 1 ≤ 16 * pages
    → out ≡ stored b (32 + 32 * r) (times (8 * (16 * pages - 1 - r)) (number / 4096)) → out ≡ stored b (32 + 32 * r) (replicate (512 * pages - (32 + 32 * r)) 0)
zeros_put number r pages b out few some is_out =
    let none : number / 4096 ≡ 0 = omega arith in
    let rows : 4 * (8 * (16 * pages - 1 - r)) ≡ 512 * pages - (32 + 32 * r) = omega arith in
    is_out ∙ ap (stored b (32 + 32 * r)) (ap (times (8 * (16 * pages - 1 - r))) none ∙ times_zero (8 * (16 * pages - 1 - r)) ∙ ap (λ (n : ℕ). replicate {A = ℕ} n 0) rows)

-- the loop after i turns of n
abbrev pub Listing : List Part → List ℕ → Request → ℕ → List ℕ → ℕ → ℕ → Type 0
Listing ps hs q n places number i = (i ≤ n) × (n ≤ 128) × (length ps ≡ 128) × (length hs ≡ 128) × Listed ps hs q places number i

pub listing_next : (ps : List Part) (hs : List ℕ) (q : Request) (n : ℕ) (places : List ℕ) (number i : ℕ) → Listing ps hs q n places number i
    → i < n → (b : Bool) → b ≡ asks q (shown_of (get_or ps i blank_part) (get_or hs i 0)) → Listing ps hs q n (set places number i) (number + bool_byte b) (i + 1)
listing_next ps hs q n places number i listing low b is_b =
    (omega arith, listing.1, listing.2, listing.3, list_turn ps hs q places number i listing.4 (omega (arith, listing)) b is_b)

-- places put down, and how many count: what they show is the list
abbrev Lists : Device → Request → List ℕ → ℕ → Type 0
Lists d q places number =
    (shown_there d.table.parts d.cells.healths places number ≡ list_of d q) × (number ≤ 128) × (length places ≡ 128) × Slots places

pub listing_all : (d : Device) (q : Request) (n : ℕ) (places : List ℕ) (number i : ℕ) → n ≡ min d.table.count 128
    → Listing d.table.parts d.cells.healths q n places number i → n ≤ i → Lists d q places number
listing_all d q n places number i is_n listing high =
    let all : i ≡ min d.table.count 128 = omega (arith, listing) in
    (listing.4.0 ∙ all_listed d q i listing.2 all, omega (arith, listing), listing.4.2, listing.4.3)

module _ (d : Device) (q : Request) (places : List ℕ) (number : ℕ) (lists : Lists d q places number) where
  number-listed : number ≡ length (list_of d q)
  number-listed = sym (length_there d.table.parts d.cells.healths places number (omega (arith, lists))) ∙ ap length lists.0

  pub filled : 1 ≤ pages_of q → (r : ℕ) → r ≡ returned_of number (pages_of q) → (h : Header) → h ≡ headed number r d.cells.note d.table.limit (removed_number d)
      → (b b₁ b₂ b₃ : List ℕ) → 512 * pages_of q ≤ length b → b₁ ≡ stored b 0 (header_bytes Little h)
      → b₂ ≡ stored b₁ 32 (flat (descriptor_bytes Little) (shown_there d.table.parts d.cells.healths places r))
      → b₃ ≡ stored b₂ (32 + 32 * r) (replicate (512 * pages_of q - (32 + 32 * r)) 0) → b₃ ≡ page_of d q ++ drop (512 * pages_of q) b
  filled some r is_r h is_h =
      let right : r ≡ returned_of (length (list_of d q)) (pages_of q) = is_r ∙ ap (λ (m : ℕ). returned_of m (pages_of q)) number-listed in
      let headed_so : h ≡ header_of d q = is_h ∙ (λ j. headed (number-listed j) (right j) d.cells.note d.table.limit (removed_number d)) in
      let first : shown_there d.table.parts d.cells.healths places r ≡ take r (list_of d q) =
      sym (take_there d.table.parts d.cells.healths places number r (omega (arith, is_r))) ∙ ap (take r) lists.0 in
      together d q h (shown_there d.table.parts d.cells.healths places r) r right headed_so first some

module _ (ps : List Part) (hs places : List ℕ) (r : ℕ) (b : List ℕ) (long : length places ≡ 128) (few : r ≤ 128) (room : 32 + 32 * r ≤ length b) where
  pub put_next : (k : ℕ) (x y : List ℕ) → k < r → x ≡ stored b 32 (flat (descriptor_bytes Little) (take k (shown_there ps hs places r)))
      → y ≡ stored x (32 + 32 * k) (descriptor_bytes Little (shown_of (get_or ps (get_or places k 0) blank_part) (get_or hs (get_or places k 0) 0)))
      → y ≡ stored b 32 (flat (descriptor_bytes Little) (take (k + 1) (shown_there ps hs places r)))
  unfolding shown_in
  put_next k x y less is_x is_y =
      stored_each (descriptor_bytes Little) 32 (wide Little) (shown_there ps hs places r) b x y 32 k (shown_in ps hs 0) (omega arith) (omega (arith, length_there ps hs places r (omega arith))) is_x
      (is_y ∙ ap (λ (z : Descriptor). stored x (32 + 32 * k) (descriptor_bytes Little z)) (at_place ps hs places r k less))

  pub put_all : (k : ℕ) (x : List ℕ) → k ≤ r → r ≤ k → x ≡ stored b 32 (flat (descriptor_bytes Little) (take k (shown_there ps hs places r)))
      → x ≡ stored b 32 (flat (descriptor_bytes Little) (shown_there ps hs places r))
  put_all k x low high is_x =
      is_x ∙ ap (λ (l : List Descriptor). stored b 32 (flat (descriptor_bytes Little) l)) (take_all k (shown_there ps hs places r) (omega (arith, length_there ps hs places r (omega arith))))

-- ## The answer, and the buffer

module _ (d : Device) (s : Security) (q : Request) (buf : List ℕ) (a : Answer) (is_a : number_of a ≡ status_number s q (length buf)) (n : ℕ) (is_n : n ≡ number_of a) where
  pub shown_done : n ≡ 0 → (out : List ℕ) → out ≡ page_of d q ++ drop (512 * pages_of q) buf → said a out ≡ shown d s q buf
  shown_done z out is_out = rw (is_a, is_out, eq-eqb _ _ (sym is_a ∙ sym is_n ∙ z))

  pub shown-refused : (n ≡ 0 → ⊥) → said a buf ≡ shown d s q buf
  shown-refused ne = rw (is_a, ne_eqb _ _ (λ z. ne (is_n ∙ is_a ∙ z)))
