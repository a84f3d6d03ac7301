-- The data for a SCSI host, cut in a part of the lent buffer: a law for each way out.
use Prim.Native.Nat.{ℕ, ◌+◌, ◌-◌, ◌*◌, ◌≤◌, ◌<◌, min}
use mathlib.Core.Bool.{Bool, true, false, cond}
use mathlib.Core.List.{List, ◌++◌, append-nil}
use mathlib.Core.Path.{◌≡◌, refl, sym, ap, ◌∙◌}
use native.Mathlib.Nat.{add-zero, sub-zero}
use native.Mathlib.Omega.{arith}
use lib.ListN.{length, take, drop, get_or, length-append, length-take, drop_of_length-le}
use lib.Seq.{take_all, take-take, take-length, length-take-le}
use mir.Val.{bool_byte}
use Rattle.std.specs.Prelude.{Ok, Err}
use Rattle.device.specs.Record.{removed_number}
use Rattle.device.specs.declared.Device.{Device}
use Rattle.layout.proofs.Bytes.{header_wide, wide}
use Rattle.layout.specs.Bytes.{header_bytes, descriptor_bytes}
use Rattle.layout.specs.declared.Descriptor.{Descriptor}
use Rattle.layout.specs.declared.Header.{Header}
use Rattle.paper.proofs.Output.{written_small, written_done, refusal_writes_nothing}
use Rattle.paper.specs.Output.{output, wrote, written}
use Rattle.paper.specs.Told.{tells}
use Rattle.paper.specs.declared.Unwritten.TheVariants.{InvalidField, SmallBuffer}
use Rattle.query.specs.Queries.{due_four, asked}
use Rattle.query.specs.declared.Query.{Query}
use Rattle.request.specs.declared.Request.{Request}
use Rattle.slices.proofs.Lists.{take_min, stored_none, stored-front, stored_each, cut_more, length-flat, flat_cut}
use Rattle.slices.specs.Lists.{flat, stored}
use Rattle.strokes.specs.Rows.{row_bytes}
use Rattle.strokes.specs.declared.Row.{Row}
use Rattle.table.specs.Elements.{blank_part}
use Rattle.table.specs.declared.Part.{Part}
use Rattle.view.specs.Shown.{shown_of, asks}
use Rattle.words.specs.declared.Order.TheVariants.{Big}
use Rattle.status.specs.Page.{list_of, headed}
use Rattle.status.specs.Private.{shown_in}
use Rattle.sender.specs.Private.{data_for}
use Rattle.sender.specs.Promises.{UnsentLeavesBytes, SendsTheSmaller}
use Rattle.sender.specs.Sent.{sent_header, data_of, sent}
use Rattle.status.proofs.Places.{wanted, all_listed}
use Rattle.sender.proofs.Walk.{count, count_low, count_turn, next_less, next_here}

some_put : (d out : List ℕ) (r : Row) (at : ℕ) → out ≡ stored d at (take (length d - at) (row_bytes r)) → (c : List ℕ) → row_bytes r ≡ c → out ≡ stored d at (take (length d - at) c)
some_put d out r at is_out c is_r = is_out ∙ ap (λ (l : List ℕ). stored d at (take (length d - at) l)) is_r

-- how many are asked for, of n elements
abbrev pub Counted : List Part → List ℕ → Request → ℕ → ℕ → ℕ → Type 0
Counted ps hs q n number i = (i ≤ n) × (n ≤ 128) × (length ps ≡ 128) × (length hs ≡ 128) × (number ≡ count ps hs q i)

pub counted_none : (ps : List Part) (hs : List ℕ) (q : Request) (n : ℕ) → n ≤ 128 → length ps ≡ 128 → length hs ≡ 128 → Counted ps hs q n 0 0
unfolding wanted
counted_none ps hs q n few long long_too = (omega arith, few, long, long_too, refl)

module _ (ps : List Part) (hs : List ℕ) (q : Request) (n number i : ℕ) (counted : Counted ps hs q n number i) where
  pub counted_low : number ≤ 128
  counted_low = omega (arith, counted, count_low ps hs q i)

  pub counted_less : i < n → number < 128
  counted_less low = omega (arith, counted, count_low ps hs q i)

  pub counted_next : i < n → (b : Bool) → b ≡ asks q (shown_of (get_or ps i blank_part) (get_or hs i 0)) → Counted ps hs q n (number + bool_byte b) (i + 1)
  counted_next low b is_b =
      (omega arith, counted.1, counted.2, counted.3, ap (λ (m : ℕ). m + bool_byte b) counted.4 ∙ sym (count_turn ps hs q i b is_b))

pub counted_all : (d : Device) (q : Request) (n number i : ℕ) → n ≡ min d.table.count 128 → Counted d.table.parts d.cells.healths q n number i → n ≤ i
    → number ≡ length (list_of d q)
counted_all d q n number i is_n counted high =
    let end : i ≡ n = omega (arith, counted) in
    counted.4 ∙ ap (count d.table.parts d.cells.healths q) end ∙ ap length (all_listed d q n counted.2 is_n)

-- the descriptors of what is asked for, one after another behind the header
module _ (ps : List Part) (hs : List ℕ) (q : Request) (n : ℕ) (b : List ℕ) where
  abbrev f : Descriptor → List ℕ
  f = descriptor_bytes Big

  abbrev all : List Descriptor
  all = wanted ps hs q n

  -- the loop after i turns
  abbrev pub Walked : ℕ → ℕ → List ℕ → Type 0
  Walked at i x =
      (i ≤ n) × (n ≤ 128) × (length ps ≡ 128) × (length hs ≡ 128) × (at ≡ 32 + 32 * count ps hs q i) × (32 * count ps hs q i ≤ length b - 32) × (length x ≡ length b)
      × (x ≡ stored b 32 (flat f (take (count ps hs q i) all)))

  pub walk_none : n ≤ 128 → length ps ≡ 128 → length hs ≡ 128 → Walked 32 0 b
  unfolding wanted
  walk_none few long long_too = (omega arith, few, long, long_too, refl, omega arith, refl, sym (stored_none b 32))

  module _ (at i : ℕ) (x : List ℕ) (walked : Walked at i x) (low : i < n) (t : Bool) (is_t : t ≡ asks q (shown_of (get_or ps i blank_part) (get_or hs i 0))) where
    pub walk-past : t ≡ false → Walked at (i + 1) x
    walk-past skipped =
        let same : count ps hs q (i + 1) ≡ count ps hs q i = count_turn ps hs q i t is_t ∙ rw skipped (add-zero (count ps hs q i)) in
        (omega arith, walked.1, walked.2, walked.3, walked.4 ∙ rw same, omega (arith, walked), walked.6, walked.7 ∙ rw same)

    module _ (yes : t ≡ true) where
      pub walk_next : at + 32 ≤ length x → (y : List ℕ) → length y ≡ length x → y ≡ stored x at (f (shown_of (get_or ps i blank_part) (get_or hs i 0))) → Walked (at + 32) (i + 1) y
      unfolding shown_in
      walk_next room y same is_y =
          let k : ℕ = count ps hs q i in
          let more : count ps hs q (i + 1) ≡ k + 1 = count_turn ps hs q i t is_t ∙ rw yes in
          let less : k < length all = next_less ps hs q i t is_t yes n low in
          let there : y ≡ stored x (32 + 32 * k) (f (get_or all k (shown_in ps hs 0))) =
          is_y ∙ (λ j. stored x (walked.4 j) (f (next_here ps hs q i t is_t yes n low (shown_in ps hs 0) j))) in
          let put : y ≡ stored b 32 (flat f (take (k + 1) all)) =
          stored_each f 32 (wide Big) all b x y 32 k (shown_in ps hs 0) (omega (arith, walked)) less walked.7 there in
          (omega arith, walked.1, walked.2, walked.3, omega (arith, walked, more), omega (arith, walked, more), same ∙ walked.6, put ∙ rw more)

      walk_cut : length x < at + 32 → (y : List ℕ) → y ≡ stored x at (take (length x - at) (f (shown_of (get_or ps i blank_part) (get_or hs i 0))))
          → y ≡ stored b 32 (take (length b - 32) (flat f all))
      unfolding shown_in
      walk_cut short y is_y =
          let k : ℕ = count ps hs q i in
          let F : List ℕ = flat f all in
          let A : List ℕ = flat f (take k all) in
          let x' : List ℕ = f (get_or all k (shown_in ps hs 0)) in
          let less : k < length all = next_less ps hs q i t is_t yes n low in
          let long : length A ≡ 32 * k = length-flat f 32 (wide Big) (take k all) ∙ rw (length-take-le k all (omega arith)) in
          let place : at ≡ 32 + length A = omega (arith, walked, long) in
          let whole : x ≡ stored b 32 (take (length b - 32) A) = walked.7 ∙ ap (stored b 32) (sym (take_all (length b - 32) A (omega (arith, walked, long)))) in
          let rest : y ≡ stored x (32 + length A) (take (length x - (32 + length A)) x') =
          is_y ∙ (λ j. stored x (place j) (take (length x - place j) (f (next_here ps hs q i t is_t yes n low (shown_in ps hs 0) j)))) in
          let joined : take (32 * k + 32) F ≡ A ++ x' =
          flat_cut f 32 (wide Big) all k 32 (shown_in ps hs 0) less (omega arith) ∙ ap (λ (l : List ℕ). A ++ l) (take_all 32 x' (omega (arith, wide Big (get_or all k (shown_in ps hs 0))))) in
          cut_more b 32 A x' x y whole rest
          ∙ ap (λ (l : List ℕ). stored b 32 (take (length b - 32) l)) (sym joined)
          ∙ ap (stored b 32) (take-take (length b - 32) (32 * k + 32) F (omega (arith, walked, long)))

  walk-all : (at i : ℕ) (x : List ℕ) → Walked at i x → n ≤ i → length b ≤ 32 + 32 * length all → x ≡ stored b 32 (take (length b - 32) (flat f all))
  walk-all at i x walked high most =
      let end : i ≡ n = omega (arith, walked) in
      let last : count ps hs q i ≡ length all = ap (count ps hs q) end in
      let enough : take (length b - 32) (flat f all) ≡ flat f all =
      take_all (length b - 32) (flat f all) (omega (arith, walked, last, length-flat f 32 (wide Big) all)) in
      walked.7 ∙ ap (λ (m : ℕ). stored b 32 (flat f (take m all))) last ∙ ap (λ (l : List Descriptor). stored b 32 (flat f l)) (take-length all) ∙ ap (stored b 32) (sym enough)

-- and at its end what is asked for is the list
module _ (d : Device) (q : Request) (n : ℕ) (is_n : n ≡ min d.table.count 128) (b : List ℕ) (at i : ℕ) (x : List ℕ)
    (walked : Walked d.table.parts d.cells.healths q n b at i x) where
  listed : wanted d.table.parts d.cells.healths q n ≡ list_of d q
  listed = all_listed d q n walked.2 is_n

  pub asked_cut : i < n → (t : Bool) → t ≡ asks q (shown_of (get_or d.table.parts i blank_part) (get_or d.cells.healths i 0)) → t ≡ true → length x < at + 32
      → (s : Descriptor) → s ≡ shown_of (get_or d.table.parts i blank_part) (get_or d.cells.healths i 0) → (r : Row) → row_bytes r ≡ descriptor_bytes Big s
      → (y : List ℕ) → y ≡ stored x at (take (length x - at) (row_bytes r)) → y ≡ stored b 32 (take (length b - 32) (flat (descriptor_bytes Big) (list_of d q)))
  asked_cut low t is_t taken short s is_s r is_r y is_y =
      walk_cut d.table.parts d.cells.healths q n b at i x walked low t is_t taken short y
      (some_put x y r at is_y _ (is_r ∙ ap (descriptor_bytes Big) is_s))
      ∙ ap (λ (l : List Descriptor). stored b 32 (take (length b - 32) (flat (descriptor_bytes Big) l))) listed

  pub asked-all : n ≤ i → length b ≤ 32 + 32 * length (list_of d q) → x ≡ stored b 32 (take (length b - 32) (flat (descriptor_bytes Big) (list_of d q)))
  asked-all high most =
      walk-all d.table.parts d.cells.healths q n b at i x walked high (rw listed most)
      ∙ ap (λ (l : List Descriptor). stored b 32 (take (length b - 32) (flat (descriptor_bytes Big) l))) listed

-- behind the header, which may itself be cut
pub still_most : (n m there here : ℕ) → n ≡ m → there ≤ 32 + 32 * n → here ≡ there → here ≤ 32 + 32 * m
still_most n m there here is_m most same = omega arith

pub part_filled : (d : Device) (q : Request) (n : ℕ) (g : Header) → n ≡ length (list_of d q) → g ≡ headed n n d.cells.note d.table.limit (removed_number d)
    → (b b₁ b₂ : List ℕ) (r : Row) → length b ≤ 32 + 32 * n → row_bytes r ≡ header_bytes Big g → b₁ ≡ stored b 0 (take (length b - 0) (row_bytes r))
    → b₂ ≡ stored b₁ 32 (take (length b₁ - 32) (flat (descriptor_bytes Big) (list_of d q))) → b₂ ≡ take (length b) (data_for d q)
part_filled d q n g is_n is_g b b₁ b₂ r most is_r is_b₁ is_b₂ =
    let h : Header = headed (length (list_of d q)) (length (list_of d q)) d.cells.note d.table.limit (removed_number d) in
    let H : List ℕ = header_bytes Big h in
    let F : List ℕ = flat (descriptor_bytes Big) (list_of d q) in
    let head : row_bytes r ≡ H = is_r ∙ ap (header_bytes Big) (is_g ∙ (λ i. headed (is_n i) (is_n i) d.cells.note d.table.limit (removed_number d))) in
    let front : b₁ ≡ stored b 0 (take (length b - 0) H) = some_put b b₁ r 0 is_b₁ H head in
    let place : 32 ≡ 0 + length H = omega (arith, header_wide Big h) in
    let behind : b₂ ≡ stored b₁ (0 + length H) (take (length b₁ - (0 + length H)) F) = is_b₂ ∙ (λ i. stored b₁ (place i) (take (length b₁ - place i) F)) in
    let wide_all : length (take (length b) (H ++ F)) ≡ length b =
    length-take-le (length b) (H ++ F) (omega (arith, length-append H F, header_wide Big h, length-flat (descriptor_bytes Big) 32 (wide Big) (list_of d q))) in
    let past : length b ≤ length (take (length b) (H ++ F)) = omega arith in
    cut_more b 0 H F b₁ b₂ front behind
    ∙ ap (λ (m : ℕ). stored b 0 (take m (H ++ F))) (sub-zero (length b))
    ∙ stored-front b (take (length b) (H ++ F)) (omega arith)
    ∙ ap (λ (l : List ℕ). take (length b) (H ++ F) ++ l) (drop_of_length-le b past)
    ∙ append-nil (take (length b) (H ++ F))

-- ## The answer, and the buffer

module _ (d : Device) (q : Query) (a : ℕ) (buf : List ℕ) (b : Bool) (is_b : b ≡ due_four q) where
  pub sent_due : b ≡ true → wrote (Err InvalidField) buf ≡ sent d q a buf
  sent_due y = sym (rw (sym is_b ∙ y))

  module _ (no : b ≡ false) (r : Request) (is_r : r ≡ asked q) (number : ℕ) (is_number : number ≡ length (list_of d r)) (size : ℕ) (is_size : size ≡ min a (32 + 32 * number)) where
    same_data : data_for d r ≡ data_of Big d q
    unfolding data_of
    same_data = ap (data_for d) is_r

    long_data : length (data_for d r) ≡ 32 + 32 * number
    long_data =
        let F : List ℕ = flat (descriptor_bytes Big) (list_of d r) in
        length-append (header_bytes Big (headed (length (list_of d r)) (length (list_of d r)) d.cells.note d.table.limit (removed_number d))) F
        ∙ rw (length-flat (descriptor_bytes Big) 32 (wide Big) (list_of d r), is_number)

    cut : take size (data_for d r) ≡ take a (data_of Big d q)
    cut =
        let less : size ≡ min a (length (data_for d r)) = omega (arith, is_size, long_data) in
        rw less (take_min a (data_for d r)) ∙ ap (take a) same_data

    long_cut : size ≡ length (take a (data_of Big d q))
    long_cut = sym (ap length (sym cut) ∙ length-take-le size (data_for d r) (omega (arith, is_size, long_data)))

    pub sent_small : length buf < size → wrote (Err SmallBuffer) buf ≡ sent d q a buf
    sent_small short = written_small (take a (data_of Big d q)) buf size long_cut short ∙ sym (rw (sym is_b ∙ no))

    pub sent_done : size ≤ length buf → (y : List ℕ) → y ≡ take (length (take (size - 0) buf)) (data_for d r)
        → wrote (Ok size) (y ++ drop (size - 0) buf) ≡ sent d q a buf
    sent_done room y is_y =
        let whole : size - 0 ≡ size = omega arith in
        let part : length (take (size - 0) buf) ≡ size = rw whole (length-take-le size buf room) in
        let filled : y ++ drop (size - 0) buf ≡ take a (data_of Big d q) ++ drop (length (take a (data_of Big d q))) buf =
        λ i. (is_y ∙ ap (λ (m : ℕ). take m (data_for d r)) part ∙ cut) i ++ drop ((whole ∙ long_cut) i) buf in
        written_done (take a (data_of Big d q)) buf size long_cut room (y ++ drop (size - 0) buf) filled ∙ sym (rw (sym is_b ∙ no))

-- ## What holds of all that is sent (specs/Promises)

pub unsent_leaves_bytes : UnsentLeavesBytes
unsent_leaves_bytes d q a buf = by_test (due_four q)
  where
    by_test : (t : Bool)
        → ((cond t (tells 4 (output 0 buf)) (written (take a (data_of Big d q)) buf)).number ≡ 0 → ⊥)
        → (cond t (tells 4 (output 0 buf)) (written (take a (data_of Big d q)) buf)).state ≡ output 0 buf
    by_test true n = refl
    by_test false n = refusal_writes_nothing (take a (data_of Big d q)) buf n

pub sends_the_smaller : SendsTheSmaller
unfolding data_of
sends_the_smaller o d q a =
    let list : List Descriptor = list_of d (asked q) in
    let H : List ℕ = header_bytes o (sent_header d q) in
    let F : List ℕ = flat (descriptor_bytes o) list in
    length-take a (H ++ F) ∙ ap (min a) (length-append H F ∙ (λ i. header_wide o (sent_header d q) i + length-flat (descriptor_bytes o) 32 (wide o) list i))
