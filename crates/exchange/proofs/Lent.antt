-- There and back, of the code's own calls (specs/Lent): one that answers 0 has laid the conversion's bytes at the front of its buffer, and one
-- that has room for the bytes of what it takes answers 0.
use Prim.Native.Nat.{ℕ, ◌*◌, ◌≤◌}
use mathlib.Core.Bool.{Bool, true, false, cond}
use mathlib.Core.List.{List, ◌++◌}
use mathlib.Core.Path.{◌≡◌, refl, sym, ap, ◌∙◌, subst}
use native.Mathlib.Omega.{arith}
use lib.Dec.{ltb}
use lib.ListN.{length, take, drop}
use lib.Seq.{take_at}
use Rattle.std.proofs.Common.{Result, Ok, Err}
use Rattle.std.specs.Prelude.{⊤}
use Rattle.convert.proofs.Outcomes.{length-turned, one-outcome, page_bytes}
use Rattle.convert.specs.Convert.{turned, paged, scsi_offence, ata_offence, Outcome, put, place, heard, outcome}
use Rattle.convert.specs.declared.Refusal.{Refusal}
use Rattle.layout.specs.Bytes.{header_in}
use Rattle.offences.specs.Checks.{base_of}
use Rattle.offences.specs.declared.Offence.{Offence}
use Rattle.paper.proofs.Output.{written_done}
use Rattle.paper.specs.Output.{Output, output, wrote, written}
use Rattle.paper.specs.Told.{Told, tells}
use Rattle.query.specs.Queries.{asked_for}
use Rattle.reader.specs.Judgement as page
use Rattle.scsi.specs.Judgement as scsi
use Rattle.words.specs.declared.Order.TheVariants.{Little, Big}
use Rattle.exchange.specs.Exchange.{PageHolds, DataHolds, with_pages}
use Rattle.exchange.specs.Lent.{PageTurnedBack, DataTurnedBack}
use Rattle.exchange.proofs.Exchange.{page_number, there_and_back, back_and_there}
use Rattle.exchange.proofs.Kept.{bytes_fit}

-- ## Bytes that have room

module _ (bytes buf : List ℕ) where
  abbrev pub laid-front : List ℕ
  laid-front = bytes ++ drop (length bytes) buf

  module _ (size : ℕ) (long : size ≡ length bytes) where
    pub front : take size laid-front ≡ bytes
    front = take_at bytes (drop (length bytes) buf) size (sym long)

    module _ (room : size ≤ length buf) where
      pub fits_in : wrote (Ok size) laid-front ≡ written bytes buf
      fits_in = written_done bytes buf size long room laid-front refl

      pub converts : (f : Result ⊤ Offence) → f ≡ Ok tt → (c : Result ℕ Refusal) (out : List ℕ) → heard c out ≡ outcome f bytes buf → (c ≡ Ok size) × (take size out ≡ bytes)
      converts f clean c out so =
          let here : heard (Ok size) laid-front ≡ outcome f bytes buf =
          (λ i. tells (fits_in i).number (put (fits_in i).state)) ∙ ap (λ (x : Result ⊤ Offence). outcome x bytes buf) (sym clean) in
          let one = one-outcome _ c (Ok size) out laid-front so here in
          (one.0, ap (take size) one.1 ∙ front)

-- ## What was answered 0

module _ (bytes buf out : List ℕ) (size : ℕ) where
  abbrev told : Bool → Told Output
  told t = cond t (tells 7 (output 0 buf)) (tells 0 (output (length bytes) (laid-front bytes buf)))

  put_in : Outcome → Output
  put_in (put o) = o
  put_in (place p b) = output 0 b

  by_test : (t : Bool) → tells 0 (put (output size out)) ≡ tells (told t).number (put (told t).state) → take size out ≡ bytes
  unfolding put_in
  by_test true e = let no : ◌≡◌ {A = ℕ} 0 7 = ap (λ (t : Told Outcome). t.number) e in absurd (omega arith)
  by_test false e =
      let same : output size out ≡ output (length bytes) (laid-front bytes buf) = ap (λ (t : Told Outcome). put_in t.state) e in
      (λ i. take (same i).count (same i).buffer) ∙ front bytes buf (length bytes) refl

  converted : (f : Result ⊤ Offence) → heard (Ok size) out ≡ outcome f bytes buf → (f ≡ Ok tt) × (take size out ≡ bytes)
  converted (Err p) so = let no : ◌≡◌ {A = ℕ} 0 9 = ap (λ (t : Told Outcome). t.number) so in absurd (omega arith)
  converted (Ok _) so = (refl, by_test (ltb (length buf) (length bytes)) so)

-- ## There and back

pub page_turned_back : PageTurnedBack
page_turned_back s q room out size bytes first r p space back c alike second few wide =
    let (clean, is_data) = converted (turned Little Big s) room out size (scsi_offence s q) first in
    let (ok, holds) = there_and_back s q r p bytes alike clean few in
    let there : List ℕ = turned Little Big s in
    let so : heard c back ≡ outcome (ata_offence there r p) (paged p there) space =
    second ∙ (λ i. outcome (ata_offence (is_data i) r p) (paged p (is_data i)) space) in
    let (done, is_page) = converts (paged p there) space (512 * p) (sym (page_bytes there r p ok)) wide _ ok c back so in
    (done, subst (λ (t : List ℕ). PageHolds t (with_pages p q) (header_in Little s) (page.slot_of Little s)) (sym is_page) holds)

pub data_turned_back : DataTurnedBack
data_turned_back s r p room out size bytes low first space back c second wide =
    let (clean, is_page) = converted (paged p s) room out size (ata_offence s r p) first in
    let (ok, holds) = back_and_there s r p bytes low clean in
    let there : List ℕ = paged p s in
    let n = (header_in Big s).number in
    let so : heard c back ≡ outcome (scsi_offence there (asked_for p r)) (turned Little Big there) space =
    second ∙ (λ i. outcome (scsi_offence (is_page i) (asked_for p r)) (turned Little Big (is_page i)) space) in
    let long : base_of n ≡ length (turned Little Big there) =
    ap base_of (sym (page_number s r p n refl (bytes_fit Big s n bytes) clean)) ∙ sym (length-turned Little Big there) in
    let (done, is_data) = converts (turned Little Big there) space (base_of n) long wide _ ok c back so in
    (done, subst (λ (t : List ℕ). DataHolds t r (header_in Big s) (scsi.slot_of Big s)) (sym is_data) holds)
