-- Laws of a reading of SCSI data: one for each way out of a function, and how long it is.
use Prim.Native.Nat.{ℕ, ◌≤◌}
use mathlib.Core.Bool.{Bool}
use mathlib.Core.List.{List}
use mathlib.Core.Path.{◌≡◌}
use native.Mathlib.Omega.{arith}
use lib.ListN.{length, take, length-append, length-take}
use Rattle.layout.specs.Bytes.{header_in}
use Rattle.layout.specs.declared.Header.{Header}
use Rattle.std.proofs.Common.{Result, Ok, Err}
use Rattle.std.specs.Prelude.{⊤}
use Rattle.offences.specs.declared.Offence.{Offence}
use Rattle.query.specs.declared.Query.{Query}
use Rattle.scsi.specs.Data.{whole_of, torn_of, data_offence}
use Rattle.scsi.specs.Judgement.{reading, heard, answer_of, read_of, slot_of}
use Rattle.scsi.specs.declared.Reading.{Reading}
use Rattle.slices.specs.Lists.{stored, ended}
use Rattle.tally.proofs.Line.{length_tally}
use Rattle.tally.specs.Tally.{tally_line}
use Rattle.text.proofs.Digits.{length_decimal}
use Rattle.words.specs.declared.Order.TheVariants.{Big}
use Rattle.writing.proofs.Puts.{puts_one, puts_more}
use Rattle.writing.specs.Private.{Puts}
use Rattle.contents.specs.Contents.{list_text, refused_line}
use Rattle.contents.specs.DockContents.{scsi_reading_for, scsi_reading_of}
use Rattle.contents.specs.Private.{slot_at}
use Rattle.contents.specs.Promises.{EnoughForData}
use Rattle.contents.proofs.Contents.{length_list}

-- ## The text

pub read_puts : (s : List ℕ) (h : Header) (whole : ℕ) (torn : Bool) (d x y : List ℕ) (at m r : ℕ) → Puts d at (list_text h (slot_at Big s) whole) x m
    → y ≡ stored x m (tally_line whole h.number torn) → r ≡ ended x m (tally_line whole h.number torn) → Puts d at (scsi_reading_for s (reading h whole torn)) y r
read_puts s h whole torn d x y at m r one is_y is_r =
    let T : List ℕ = tally_line whole h.number torn in
    puts_more d x at m (list_text h (slot_of Big s) whole) T y r (puts_one x y m r T is_y is_r) one

pub data_refused : (s : List ℕ) (answer : Result Reading Offence) (d x : List ℕ) (at r : ℕ) (p : Offence) → answer ≡ Err p
    → x ≡ stored d at (refused_line p.0) → r ≡ ended d at (refused_line p.0) → Puts d at (scsi_reading_for s (heard answer).state) x r
data_refused s answer d x at r p e is_x is_r = rw e (puts_one d x at r (refused_line p.0) is_x is_r)

pub data_puts : (bytes kept : List ℕ) (q : Query) (answer : Result Reading Offence) (d x : List ℕ) (at r : ℕ) → kept ≡ take 65536 bytes
    → heard answer ≡ read_of Big kept q → Puts d at (scsi_reading_for kept (heard answer).state) x r → Puts d at (scsi_reading_of bytes q) x r
unfolding scsi_reading_of
data_puts bytes kept q answer d x at r is_kept is_answer so = rw (is_answer, is_kept) at so

-- ## How long: 65,536 bytes have 2,047 whole descriptors

length_data : (s : List ℕ) (f : Result ⊤ Offence) (h : Header) (whole : ℕ) (torn : Bool) → whole ≤ 2047 → length (scsi_reading_for s (answer_of f h whole torn).state) ≤ 80000
length_data s (Ok _) h whole torn few =
    let L : List ℕ = list_text h (slot_of Big s) whole in
    let T : List ℕ = tally_line whole h.number torn in
    omega (arith, length-append L T, length_list h (slot_of Big s) whole few, length_tally whole h.number torn)
length_data s (Err p) h whole torn few = simp length-append (omega (arith, length_decimal p.0))

pub enough_for_data : EnoughForData
unfolding scsi_reading_of
enough_for_data bytes q =
    let s : List ℕ = take 65536 bytes in
    let n : ℕ = (header_in Big s).number in
    let short : length s ≤ 65536 = rw (length-take 65536 bytes) (omega arith) in
    let few : whole_of n (length s) ≤ 2047 = omega arith in
    length_data s (data_offence Big s q) (header_in Big s) (whole_of n (length s)) (torn_of n (length s)) few
