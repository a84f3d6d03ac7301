-- The data of a run is given back (specs/SendsBack): the run leaves a device in order that fits, and what stands at the front of the buffer,
-- answered 0, is then data that the reader takes.
use Prim.Native.Nat.{ℕ, ◌≤◌}
use mathlib.Core.Bool.{Bool, true, false, cond}
use mathlib.Core.List.{List, ◌++◌}
use mathlib.Core.Path.{◌≡◌, refl, sym, ap, subst⁻¹, ◌∙◌}
use native.Mathlib.Omega.{arith}
use lib.Dec.{ltb}
use lib.ListN.{length, take, drop}
use lib.Seq.{take_at}
use borrow.Author.Tests.{le-ltb}
use Rattle.agreement.proofs.Agreement.{few}
use Rattle.agreement.proofs.Sent.{sent_agrees}
use Rattle.conduct.specs.Fits.{Fits}
use Rattle.device.specs.declared.Device.{Device}
use Rattle.docklist.specs.Docklist.{judged}
use Rattle.paper.specs.Output.{Output, output}
use Rattle.paper.specs.Told.{Told, tells}
use Rattle.query.specs.Queries.{due_four, asked, plain}
use Rattle.query.specs.declared.Query.{Query}
use Rattle.scsi.specs.Judgement.{Values, read_of}
use Rattle.sender.proofs.Sending.{sends_the_smaller}
use Rattle.sender.specs.Sent.{data_of}
use Rattle.table.specs.Elements.{identifiers, ascending}
use Rattle.words.specs.declared.Order.TheVariants.{Big}
use Rattle.demands.specs.SendsBack.{reading_in, SentBack, SendsBack}
use Rattle.demands.proofs.Runs.{run-leaves}

-- ## What is left, answered 0

-- 0 is no refusal, and the bytes stand at the front
left : (due small : Bool) (bytes buf out : List ℕ) (number count : ℕ)
    → tells number (output count out)
    ≡ cond due (tells 4 (output 0 buf)) (cond small (tells 7 (output 0 buf)) (tells 0 (output (length bytes) (bytes ++ drop (length bytes) buf))))
    → number ≡ 0
    → (due ≡ false) × (count ≡ length bytes) × (take count out ≡ bytes)
left true small bytes buf out number count so z = absurd (let four : number ≡ 4 = ap (λ (t : Told Output). t.number) so in omega (arith, z, four))
left false true bytes buf out number count so z = absurd (let seven : number ≡ 7 = ap (λ (t : Told Output). t.number) so in omega (arith, z, seven))
left false false bytes buf out number count so z = (
  refl,
  ap (λ (t : Told Output). t.state.count) so,
  ap (λ (t : Told Output). take t.state.count t.state.buffer) so ∙ take_at bytes (drop (length bytes) buf) (length bytes) refl,
)

-- ## The listing's request

listing_takes : (s : List ℕ) (q : Query) (v : Values) → q ≡ plain → length s ≤ 65536 → read_of Big s q ≡ tells 0 v → judged s ≡ tells 0 v
listing_takes s q v is_q short read = rw (le-ltb 65536 (length s) short) (ap (read_of Big s) (sym is_q) ∙ read)

-- ## The whole

sent_back : (d : Device) (q : Query) (a : ℕ) → Fits d → ascending 0 (identifiers d.table) ≡ true → due_four q ≡ false → 32 ≤ a
    → SentBack d q (take a (data_of Big d q))
sent_back d q a fits asc ok there =
    let s : List ℕ = take a (data_of Big d q) in
    let both = sent_agrees Big d q a fits asc ok there in
    let short : length s ≤ 65536 = omega (arith, sends_the_smaller Big d q a, few d (asked q) fits) in
    record {
      taken = both.0;
      elements = both.1;
      listed = λ is_q. listing_takes s q (reading_in d q (length s)) is_q short both.0;
    }

pub sends_back : SendsBack
sends_back there es limit a d made z s ns x ran q allocation buf out b count so done whole =
    let (fits, asc) = run-leaves there es limit a d made z s ns x ran in
    let bytes : List ℕ = take allocation (data_of Big x q) in
    let (ok, long, front) = left (due_four q) (ltb (length buf) (length bytes)) bytes buf out _ count so done in
    let least : 32 ≤ allocation = omega (arith, whole, long, sends_the_smaller Big x q allocation) in
    subst⁻¹ (SentBack x q) front (sent_back x q allocation fits asc ok least)
