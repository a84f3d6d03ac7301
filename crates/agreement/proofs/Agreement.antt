-- The device's page keeps each rule of the layout, and reads back as what was written (specs/Agreement).
use Prim.Native.Nat.{ℕ, zero, suc, ◌+◌, ◌-◌, ◌*◌, ◌^◌, ◌≤◌, ◌<◌}
use mathlib.Core.Bool.{Bool, true, false, cond, false≢true}
use mathlib.Core.List.{List, [], ◌∷◌, ◌++◌, map}
use mathlib.Core.Path.{◌≡◌, refl, sym, ap, ◌∙◌, subst}
use native.Mathlib.Nat.{min_comm}
use native.Mathlib.Omega.{arith}
use lib.Dec.{ltb}
use lib.ListN.{length, get_or, take, replicate, length-take, length-map, get_or-replicate, get_or-map}
use lib.Seq.{get_or-append-add, get_or-take}
use borrow.Author.Tests.{lt-ltb, leb-true}
use Rattle.std.proofs.Common.{Some}
use Rattle.cells.specs.declared.Note.TheVariants.{Empty, Full}
use Rattle.cells.specs.declared.Note.{Note}
use Rattle.cells.specs.declared.Removal.{Removal}
use Rattle.conduct.specs.Fits.{PartFits, Fits}
use Rattle.device.specs.Record.{removed_number}
use Rattle.device.specs.declared.Device.{Device}
use Rattle.layout.specs.Bytes.{header_in, laid, room_of, returned_of}
use Rattle.layout.specs.Promises.{HeaderFits, DescriptorFits}
use Rattle.layout.specs.declared.Descriptor.{Descriptor}
use Rattle.layout.specs.declared.Header.{Header}
use Rattle.offences.proofs.Laid.{length-laid, laid_header, laid_descriptor}
use Rattle.offences.specs.Checks.{base_of, descriptor_at, last_before}
use Rattle.paper.specs.Elements.{removed_health}
use Rattle.paper.specs.Flags.{is_on}
use Rattle.paper.specs.Told.{tells}
use Rattle.reader.proofs.LayoutTheorem.{and_both, asked_to, type_exactly, health_exactly}
use Rattle.reader.proofs.Taken.{Listed, Taken, takes}
use Rattle.reader.specs.Judgement.{header, slot_of}
use Rattle.request.proofs.Requests.{accepted}
use Rattle.request.specs.Requests.{filter_of, report_type_of, pages_of, refused, takes_id, takes_type}
use Rattle.request.specs.declared.Request.{Request}
use Rattle.slices.proofs.Lists.{length-keep, length-up_to, every_take, every_keep, every_at, every_below, kept_all}
use Rattle.slices.specs.Lists.{Every, keep, up_to, one}
use Rattle.status.proofs.EveryPage.{list_ascends, whole_pages}
use Rattle.status.specs.Page.{shown_at, shown_all, list_of, headed, header_of, page_of}
use Rattle.table.specs.Elements.{live, blank_part, identifiers, size, ascending, removed_count}
use Rattle.table.specs.declared.Part.{Part}
use Rattle.view.specs.Shown.{shown_of, asks, busy_of}
use Rattle.words.specs.declared.Order.TheVariants.{Little}
use Rattle.words.specs.declared.Order.{Order}
use Rattle.agreement.specs.Agreement.{Agrees}
use Rattle.agreement.proofs.Lists.{before, ascending_at}

-- ## An element

capacity_fits : (b : Bool) (n : ℕ) → n < 2 ^ 64 → cond b (2 ^ 64 - 1) n < 2 ^ 64
capacity_fits true n h = omega arith
capacity_fits false n h = h

descriptor_fits : (p : Part) (h : ℕ) → PartFits p → h < 2 ^ 8 → DescriptorFits (shown_of p h)
unfolding shown_of
descriptor_fits p h f low = record { id = f.id; kind = f.kind; health = low; capacity = capacity_fits (is_on p.unreported) p.blocks f.blocks }

busy_fits : (n : Note) → ((w : Removal) → n ≡ Full w → w.element.0 < 2 ^ 32) → busy_of n < 2 ^ 32
busy_fits Empty noted = omega arith
busy_fits (Full w) noted = noted w refl

few_removed : (hs : List ℕ) → removed_count hs ≤ length hs
few_removed [] = omega arith
few_removed (h ∷ hs) = more (removed_health h) (few_removed hs)
  where
    more : (b : Bool) → removed_count hs ≤ length hs → one b + removed_count hs ≤ suc (length hs)
    more true h = omega arith
    more false h = omega arith

-- what is shown at a place has no restoration bit
bit_clear : (d : Device) (n : ℕ) → Every (λ (x : Descriptor). x.restorable ≡ false) (map (shown_at d) (up_to n))
unfolding shown_of
bit_clear d n = every_below (λ (x : Descriptor). x.restorable ≡ false) (shown_at d) n (λ i _. refl)

-- an element that the request asks for keeps the rules of its place
asked-listed : (q : Request) (last : ℕ) (x : Descriptor) → asks q x ≡ true → x.restorable ≡ false → last < x.id.0 → Listed q last x
unfolding asks
asked-listed q last x a clear up =
    let id = and_both (takes_id q x.id.0) _ a in
    let rest = and_both (takes_type (report_type_of q) x.kind) _ id.1 in
    record {
      some = omega (arith, up);
      started = leb-true _ _ id.0;
      rises = up;
      earned = λ r. absurd (false≢true (sym clear ∙ r));
      typed = (type_exactly (report_type_of q) x.kind).0 rest.0;
      filtered = (health_exactly (filter_of q) x.health).0 rest.1;
    }

get_d_there : {A : Type 0} (l : List A) (k : ℕ) (x y : A) → k < length l → get_or l k x ≡ get_or l k y
get_d_there [] k x y h = absurd (omega arith)
get_d_there (z ∷ l) zero x y h = refl
get_d_there (z ∷ l) (suc k) x y h = get_d_there l k x y (omega arith)

abbrev pub none : Descriptor
none = shown_of blank_part 0

abbrev id_of : Descriptor → ℕ
id_of x = x.id.0

-- ## The list of a request

module _ (d : Device) (q : Request) (fits : Fits d) where
  list_is : list_of d q ≡ keep (asks q) (shown_all d)
  unfolding list_of
  list_is = refl

  size_few : size d.table ≤ 128
  size_few = rw (length-map, length-take, fits.full) (omega arith)

  pub few : length (list_of d q) ≤ 128
  few =
      let h = length-keep (asks q) (shown_all d) in
      let all : length (shown_all d) ≡ size d.table = length-map (up_to (size d.table)) (shown_at d) ∙ length-up_to (size d.table) in
      rw list_is (omega (arith, h, all, size_few))

  pub list_fits : Every DescriptorFits (list_of d q)
  list_fits =
      rw list_is (every_keep DescriptorFits (asks q) (shown_all d)
      (every_below DescriptorFits (shown_at d) (size d.table) (λ i h.
      let place : i < length (live d.table) = rw (← length-map (live d.table) (λ (p : Part). p.id.0)) h in
      descriptor_fits _ _ (every_at PartFits (live d.table) i blank_part place (every_take PartFits d.table.count d.table.parts fits.each))
      (every_at (λ (x : ℕ). x < 2 ^ 8) d.cells.healths i 0 (omega (arith, h, size_few, fits.celled)) fits.healths))))

  list_asked : Every (λ (x : Descriptor). asks q x ≡ true) (list_of d q)
  list_asked = rw list_is (kept_all (asks q) (shown_all d))

  list_clear : Every (λ (x : Descriptor). x.restorable ≡ false) (list_of d q)
  list_clear = rw list_is (every_keep (λ (x : Descriptor). x.restorable ≡ false) (asks q) (shown_all d) (bit_clear d (size d.table)))

  pub header_fits : (n r : ℕ) → n ≤ 128 → r ≤ 128 → HeaderFits (headed n r d.cells.note d.table.limit (removed_number d))
  header_fits n r few_n few_r =
      let removed = few_removed (take d.table.count d.cells.healths) in
      let few_cells : length (take d.table.count d.cells.healths) ≤ 128 = rw (length-take, fits.celled) (omega arith) in
      record {
        number = omega arith;
        returned = omega arith;
        busy = busy_fits d.cells.note fits.noted;
        limit = fits.limit;
        removed = omega (arith, removed, few_cells);
      }

  -- bytes that have its first n elements, in an order, keep the rules of their places
  module _ (asc : ascending 0 (identifiers d.table) ≡ true) (o : Order) (s : List ℕ) (n : ℕ) (less : n ≤ length (list_of d q))
      (here : (k : ℕ) → k < n → descriptor_at o s k ≡ get_or (list_of d q) k none) where
    id_at : (k : ℕ) → k < n → get_or (map id_of (list_of d q)) k 0 ≡ id_of (get_or (list_of d q) k none)
    id_at k l = get_d_there (map id_of (list_of d q)) k 0 (id_of none) (rw (length-map (list_of d q) id_of) (omega arith)) ∙ get_or-map id_of (list_of d q) k none

    last_here : (k : ℕ) → k < n → last_before o s k ≡ before 0 (map id_of (list_of d q)) k
    last_here zero l = refl
    last_here (suc k) l = ap id_of (here k (omega arith)) ∙ sym (id_at k (omega arith))

    pub list_here : (k : ℕ) → k < n → Listed q (last_before o s k) (descriptor_at o s k)
    list_here k l =
        let e = get_or (list_of d q) k none in
        let asked : asks q e ≡ true = every_at (λ (x : Descriptor). asks q x ≡ true) (list_of d q) k none (omega arith) list_asked in
        let clear : e.restorable ≡ false = every_at (λ (x : Descriptor). x.restorable ≡ false) (list_of d q) k none (omega arith) list_clear in
        let up : before 0 (map id_of (list_of d q)) k < id_of e =
        subst (λ (m : ℕ). before 0 (map id_of (list_of d q)) k < m) (id_at k l) (ascending_at 0 (map id_of (list_of d q)) k (rw (length-map (list_of d q) id_of) (omega arith)) (list_ascends d q asc)) in
        subst (λ (x : Descriptor). Listed q (last_before o s k) x) (sym (here k l))
        (subst (λ (m : ℕ). Listed q m e) (sym (last_here k l)) (asked-listed q (before 0 (map id_of (list_of d q)) k) e asked clear up))

-- ## The page

module _ (d : Device) (q : Request) (fits : Fits d) (asc : ascending 0 (identifiers d.table) ≡ true) (ok : refused q ≡ false) where
  abbrev n : ℕ
  n = (header_of d q).returned

  abbrev listed : List Descriptor
  listed = take (room_of (pages_of q)) (list_of d q)

  abbrev zeros : List ℕ
  zeros = replicate (512 * pages_of q - 32 * (n + 1)) 0

  page_is : page_of d q ≡ laid Little (header_of d q) listed ++ zeros
  unfolding page_of
  page_is = refl

  listed-length : length listed ≡ n
  listed-length = length-take (room_of (pages_of q)) (list_of d q) ∙ min_comm (room_of (pages_of q)) (length (list_of d q))

  pub header_here : header_in Little (page_of d q) ≡ header_of d q
  header_here = ap (header_in Little) page_is ∙ laid_header Little (header_of d q) listed zeros (header_fits d q fits _ _ (few d q fits) (omega (arith, few d q fits)))

  pub descriptor_here : (k : ℕ) → k < n → descriptor_at Little (page_of d q) k ≡ get_or (list_of d q) k none
  descriptor_here k l =
      ap (λ (s : List ℕ). descriptor_at Little s k) page_is
      ∙ laid_descriptor Little (header_of d q) listed zeros (every_take DescriptorFits (room_of (pages_of q)) (list_of d q) (list_fits d q fits)) k none (omega (arith, listed-length))
      ∙ get_or-take (room_of (pages_of q)) (list_of d q) k none (omega arith)

  padding_here : (i : ℕ) → i < length (page_of d q) - base_of n → get_or (page_of d q) (base_of n + i) 0 ≡ 0
  padding_here i l =
      let whole = whole_pages d q (accepted q ok).2 in
      let front : List ℕ = laid Little (header_of d q) listed in
      let long : length front ≡ base_of n = length-laid Little (header_of d q) listed ∙ ap base_of listed-length in
      ap (λ (s : List ℕ). get_or s (base_of n + i) 0) page_is
      ∙ subst (λ (m : ℕ). get_or (front ++ zeros) (m + i) 0 ≡ 0) long
      (get_or-append-add front zeros i 0 ∙ get_or-replicate (512 * pages_of q - 32 * (n + 1)) i 0 0 (omega (arith, whole)))

  returned_here : (header_in Little (page_of d q)).returned ≡ n
  returned_here = ap (λ (h : Header). h.returned) header_here

  keeps : Taken Little (page_of d q) q
  keeps =
      record {
        asked = asked_to q ok;
        long = whole_pages d q (accepted q ok).2;
        returned = returned_here ∙ ap (λ (h : Header). returned_of h.number (pages_of q)) (sym header_here);
        list = λ k l. list_here d q fits asc Little (page_of d q) n (omega arith) descriptor_here k (rw returned_here at l);
        padding = subst (λ (m : ℕ). (i : ℕ) → i < length (page_of d q) - base_of m → get_or (page_of d q) (base_of m + i) 0 ≡ 0) (sym returned_here) padding_here;
      }

  slot_here : (k : ℕ) → k < n → slot_of Little (page_of d q) k ≡ Some (get_or (list_of d q) k none)
  slot_here k l =
      let less : ltb k (header_in Little (page_of d q)).returned ≡ true = rw returned_here (lt-ltb k n l) in
      rw less (ap Some (descriptor_here k l))

pub agrees : Agrees
agrees d q fits asc ok =
    (takes Little (page_of d q) q (keeps d q fits asc ok) ∙ ap (λ (h : Header). tells 0 (header h)) (header_here d q fits asc ok), slot_here d q fits asc ok)
