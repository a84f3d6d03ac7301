-- What is answered: a law for each way out.
use Prim.Native.Nat.{ℕ, ◌+◌, ◌-◌, ◌*◌, ◌≤◌, ◌<◌}
use mathlib.Core.Bool.{Bool, true, false, cond}
use mathlib.Core.List.{List, [], ◌++◌}
use mathlib.Core.Path.{◌≡◌, refl, sym, ap, ◌∙◌}
use native.Mathlib.Omega.{arith}
use lib.Dec.{eqb, leb}
use lib.ListN.{length, replicate, length-append, length-replicate}
use borrow.Author.Tests.{eqb-true, leb-true, not-true}
use Rattle.layout.specs.Bytes.{header_in, laid, returned_of}
use Rattle.layout.specs.declared.Header.{Header}
use Rattle.offences.proofs.Laid.{length-laid}
use Rattle.offences.specs.Checks.{base_of}
use Rattle.std.proofs.Common.{Result, Ok, Err}
use Rattle.std.specs.Prelude.{⊤}
use Rattle.offences.specs.First.{unless, ◌or_else◌}
use Rattle.offences.specs.declared.Offence.{Offence}
use Rattle.paper.proofs.Output.{written_small, written_done, refusal_writes_nothing}
use Rattle.paper.specs.Output.{Output, wrote, written}
use Rattle.paper.specs.Told.{Told, tells}
use Rattle.query.specs.declared.Query.{Query}
use Rattle.reader.proofs.LayoutTheorem.{and_both}
use Rattle.reader.specs.Page.{page_offence}
use Rattle.request.proofs.Requests.{accepted}
use Rattle.request.specs.Requests.{pages_of}
use Rattle.request.specs.declared.Request.{Request}
use Rattle.scsi.specs.Data.{whole_of, data_offence}
use Rattle.slices.proofs.Lists.{stored-front, stored_more}
use Rattle.slices.specs.Lists.{stored}
use Rattle.words.specs.declared.Order.TheVariants.{Little, Big}
use Rattle.words.specs.declared.Order.{Order}
use Rattle.convert.specs.Convert.{list_in, turned, paged, scsi_offence, fits_pages, ata_offence, Outcome, put, place, buffer_of, heard, outcome, to_scsi, to_ata}
use Rattle.convert.specs.Promises.{OneOutcome, RefusalLeavesBytes, DataBytes, PageBytes}
use Rattle.convert.specs.declared.Refusal.TheVariants as refusals
use Rattle.convert.specs.declared.Refusal.{Refusal}
use Rattle.convert.proofs.Turned.{length_list}

-- ## What is answered

module _ (g bytes buf : List ℕ) (f : Result ⊤ Offence) where
  module _ (clean : f ≡ Ok tt) (n : ℕ) (is_n : n ≡ length bytes) where
    too_short : length buf < n → heard (Err refusals.SmallBuffer) buf ≡ outcome f bytes buf
    too_short less =
        (λ i. tells (written_small bytes buf n is_n less i).number (put (written_small bytes buf n is_n less i).state)) ∙ sym (rw clean)

    all_put : n ≤ length buf → g ≡ stored buf 0 bytes → heard (Ok n) g ≡ outcome f bytes buf
    all_put room is_g =
        let so : wrote (Ok n) g ≡ written bytes buf = written_done bytes buf n is_n room g (is_g ∙ stored-front buf bytes (omega (arith, is_n))) in
        (λ i. tells (so i).number (put (so i).state)) ∙ sym (rw clean)

pub turned-laid : (from to : Order) (s : List ℕ) → laid to (header_in from s) (list_in from s (header_in from s).number) ≡ turned from to s
unfolding turned
turned-laid from to s = refl

pub length-turned : (from to : Order) (s : List ℕ) → length (turned from to s) ≡ base_of (header_in from s).number
unfolding turned
length-turned from to s = length-laid to (header_in from s) (list_in from s (header_in from s).number) ∙ ap base_of (length_list from s (header_in from s).number)

-- ## What is not refused

clean_not : (p : Offence) → ◌≡◌ {A = Result ⊤ Offence} (Err p) (Ok tt) → ⊥
clean_not p e = cc

pub unless_clean : (b : Bool) (p : ℕ) → unless b p ≡ Ok tt → b ≡ true
unless_clean true p e = refl
unless_clean false p e = absurd (clean_not _ e)

pub or_clean : (a b : Result ⊤ Offence) → (a or_else b) ≡ Ok tt → (a ≡ Ok tt) × (b ≡ Ok tt)
or_clean (Ok _) b e = (refl, e)
or_clean (Err p) b e = absurd (clean_not p e)

-- a page that is not refused: the list is there whole
pub page_whole : (s : List ℕ) (q : Request) → scsi_offence s q ≡ Ok tt → base_of (header_in Little s).number ≤ length s
page_whole s q clean =
    let n = (header_in Little s).number in
    let both = or_clean (page_offence Little s q) (unless (eqb (header_in Little s).returned n) 4) clean in
    let asked = or_clean _ _ both.0 in
    let sized = or_clean _ _ asked.1 in
    let counted = or_clean _ _ sized.1 in
    let some : 1 ≤ pages_of q = (accepted q (not-true _ (unless_clean _ 0 asked.0))).2 in
    let long : length s ≡ 512 * pages_of q = eqb-true _ _ (unless_clean _ 0 sized.0) in
    let cut : (header_in Little s).returned ≡ returned_of n (pages_of q) = eqb-true _ _ (unless_clean _ 4 counted.0) in
    let all : (header_in Little s).returned ≡ n = eqb-true _ _ (unless_clean _ 4 both.1) in
    omega (arith, some, long, cut, all)

-- ## To SCSI

module _ (s : List ℕ) (q : Request) (buf : List ℕ) (f : Result ⊤ Offence) (is_f : f ≡ scsi_offence s q) where
  told : (t : Told Outcome) → t ≡ outcome f (turned Little Big s) buf → t ≡ to_scsi s q buf
  told t so = so ∙ ap (λ (x : Result ⊤ Offence). outcome x (turned Little Big s) buf) is_f

  module _ (clean : f ≡ Ok tt) (h : Header) (is_h : h ≡ header_in Little s) where
    size : 32 + 32 * h.number ≡ length (turned Little Big s)
    size = ap (λ (x : Header). base_of x.number) is_h ∙ sym (length-turned Little Big s)

    pub scsi_short : length buf < 32 + 32 * h.number → heard (Err refusals.SmallBuffer) buf ≡ to_scsi s q buf
    scsi_short less = told _ (too_short buf (turned Little Big s) buf f clean (32 + 32 * h.number) size less)

    pub page_there : 32 + 32 * h.number ≤ length s
    page_there = rw is_h (page_whole s q (sym is_f ∙ clean))

    pub scsi_done : 32 + 32 * h.number ≤ length buf → (g : List ℕ) → g ≡ stored buf 0 (laid Big (header_in Little s) (list_in Little s h.number))
        → heard (Ok (32 + 32 * h.number)) g ≡ to_scsi s q buf
    scsi_done room g is_g =
        told _ (all_put g (turned Little Big s) buf f clean (32 + 32 * h.number) size room
        (is_g ∙ ap (λ (x : Header). stored buf 0 (laid Big (header_in Little s) (list_in Little s x.number))) is_h ∙ ap (stored buf 0) (turned-laid Little Big s)))

-- ## To ATA

-- data that is not refused: the list is there whole, and not "above 16p - 1"
pub fits_clean : (s : List ℕ) (q : Query) (p : ℕ) → ata_offence s q p ≡ Ok tt
    → (data_offence Big s q ≡ Ok tt) × (whole_of (header_in Big s).number (length s) ≡ (header_in Big s).number) × ((header_in Big s).number + 1 ≤ 16 * p)
fits_clean s q p clean =
    let n = (header_in Big s).number in
    let both = or_clean (data_offence Big s q) (unless (fits_pages (whole_of n (length s)) n p) 4) clean in
    let fits = and_both (eqb (whole_of n (length s)) n) (leb (n + 1) (16 * p)) (unless_clean _ 4 both.1) in
    (both.0, eqb-true _ _ fits.0, leb-true (n + 1) (16 * p) fits.1)

module _ (s : List ℕ) (q : Query) (p : ℕ) (buf : List ℕ) (f : Result ⊤ Offence) (is_f : f ≡ ata_offence s q p) where
  answered : (t : Told Outcome) → t ≡ outcome f (paged p s) buf → t ≡ to_ata s q p buf
  answered t so = so ∙ ap (λ (x : Result ⊤ Offence). outcome x (paged p s) buf) is_f

  module _ (clean : f ≡ Ok tt) where
    abbrev n : ℕ
    n = (header_in Big s).number

    few : n + 1 ≤ 16 * p
    few = (fits_clean s q p (sym is_f ∙ clean)).2

    whole : base_of n ≤ length s
    whole =
        let fits = fits_clean s q p (sym is_f ∙ clean) in
        omega (arith, fits.1, leb-true 32 (length s) (unless_clean _ 0 (or_clean _ _ fits.0).0))

    page_size : 512 * p ≡ length (paged p s)
    unfolding paged
    page_size = sym (length-append (turned Big Little s) (replicate (512 * p - base_of n) 0) ∙ rw (length-turned Big Little s, length-replicate) (omega (arith, few)))

    pub ata_short : length buf < 512 * p → heard (Err refusals.SmallBuffer) buf ≡ to_ata s q p buf
    ata_short less = answered _ (too_short buf (paged p s) buf f clean (512 * p) page_size less)

    module _ (room : 512 * p ≤ length buf) (h : Header) (is_h : h ≡ header_in Big s) where
      same : h.number ≡ n
      same = ap (λ (x : Header). x.number) is_h

      pub data_there : 32 + 32 * h.number ≤ length s
      data_there = omega (arith, whole, same)

      pub list_fits : 32 + 32 * h.number ≤ length buf
      list_fits = omega (arith, few, same)

      pub ata_done : (x y : List ℕ) → x ≡ stored buf 0 (laid Little (header_in Big s) (list_in Big s h.number))
          → y ≡ stored x (32 + 32 * h.number) (replicate (512 * p - (32 + 32 * h.number)) 0) → heard (Ok (512 * p)) y ≡ to_ata s q p buf
      unfolding paged
      ata_done x y is_x is_y =
          let t : List ℕ = turned Big Little s in
          let z : List ℕ = replicate (512 * p - base_of n) 0 in
          let place : base_of n ≡ 0 + length t = omega (arith, length-turned Big Little s) in
          let first : x ≡ stored buf 0 t =
          is_x ∙ ap (λ (m : ℕ). stored buf 0 (laid Little (header_in Big s) (list_in Big s m))) same ∙ ap (stored buf 0) (turned-laid Big Little s) in
          let both : y ≡ stored buf 0 (t ++ z) =
          is_y
          ∙ (λ i. stored (first i) (base_of (same i)) (replicate (512 * p - base_of (same i)) 0))
          ∙ ap (λ (m : ℕ). stored (stored buf 0 t) m z) place
          ∙ stored_more buf 0 t z (omega (arith, page_size, room)) in
          answered _ (all_put y (paged p s) buf f clean (512 * p) page_size room both)

-- ## What holds of every outcome (specs/Promises)

pub refusal_leaves_bytes : RefusalLeavesBytes
refusal_leaves_bytes (Err p) bytes buf n = refl
refusal_leaves_bytes (Ok _) bytes buf n = ap (λ (o : Output). o.buffer) (refusal_writes_nothing bytes buf n)

back : Told Outcome → Result ℕ Refusal
back t = of t.number t.state
  where
    of : ℕ → Outcome → Result ℕ Refusal
    of n (put out) = cond (eqb n 0) (Ok out.count) (Err refusals.SmallBuffer)
    of n (place p buf) = Err (refusals.Offence (record { 0 = p }))

back_heard : (a : Result ℕ Refusal) (x : List ℕ) → (back (heard a x) ≡ a) × (buffer_of (heard a x).state ≡ x)
unfolding back
back_heard (Ok n) x = (refl, refl)
back_heard (Err refusals.SmallBuffer) x = (refl, refl)
back_heard (Err (refusals.Offence p)) x = (refl, refl)

pub one-outcome : OneOutcome
one-outcome t a b x y is_a is_b = (
  sym (back_heard a x).0 ∙ ap back (is_a ∙ sym is_b) ∙ (back_heard b y).0,
  sym (back_heard a x).1 ∙ ap (λ (u : Told Outcome). buffer_of u.state) (is_a ∙ sym is_b) ∙ (back_heard b y).1,
)

pub data_bytes : DataBytes
data_bytes = length-turned

pub page_bytes : PageBytes
page_bytes s q p clean = sym (page_size s q p [] (ata_offence s q p) refl clean)
