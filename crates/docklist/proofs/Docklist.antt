-- Laws of the listing: one for each way out of a function.
use Prim.Native.Nat.{ℕ, ◌≤◌}
use mathlib.Core.List.{List, ◌++◌}
use mathlib.Core.Path.{◌≡◌, sym, ap, ◌∙◌, subst}
use lib.ListN.{length}
use Rattle.entries.proofs.Entries.{lines_there}
use Rattle.offences.specs.Checks.{base_of}
use Rattle.std.proofs.Common.{Result, Ok, Err}
use Rattle.offences.specs.declared.Offence.{Offence}
use Rattle.paper.specs.Output.{Output, written}
use Rattle.paper.specs.Told.{Told}
use Rattle.rows.specs.Rows.{header_line, refused_line}
use Rattle.scsi.specs.Judgement.{Values, heard}
use Rattle.scsi.specs.declared.Reading.{Reading}
use Rattle.sheet.specs.Sheet.{sheet_of}
use Rattle.tally.specs.Tally.{tally_line}
use Rattle.words.specs.declared.Order.TheVariants.{Big}
use Rattle.docklist.specs.Docklist.{judged, text_for, listing_of, listed}
use Rattle.docklist.proofs.EveryListing.{line_count, there}

-- ## The whole listing

module _ (s out : List ℕ) (answer : Result Reading Offence) (is_answer : heard answer ≡ judged s) (t : Told Output) where
  was_judged : (a : Result Reading Offence) → answer ≡ a → (judged s).state ≡ (heard a).state
  was_judged a e = sym (ap (λ (u : Told Values). u.state) is_answer) ∙ ap (λ (b : Result Reading Offence). (heard b).state) e

  text_listed : (a : Result Reading Offence) → answer ≡ a → t ≡ written (text_for s (heard a).state) out → t ≡ listed s out
  unfolding listing_of
  text_listed a e so = so ∙ ap (λ (v : Values). written (text_for s v) out) (sym (was_judged a e))

  -- the descriptors that have a line are all there
  pub accepted-listed : (r : Reading) → answer ≡ Ok r → t ≡ written (sheet_of Big s r.header r.whole r.header.number r.torn) out → t ≡ listed s out
  unfolding sheet_of
  accepted-listed r e so =
      let all : 1 ≤ r.whole → base_of r.whole ≤ length s = subst (λ (v : Values). 1 ≤ line_count v → base_of (line_count v) ≤ length s) (was_judged (Ok r) e) (there s).0 in
      text_listed (Ok r) e
      (so ∙ ap (λ (l : List ℕ). written (header_line r.header ++ l ++ tally_line r.whole r.header.number r.torn) out) (lines_there Big s r.whole all))

  pub refused-listed : (p : Offence) → answer ≡ Err p → t ≡ written (refused_line p.0) out → t ≡ listed s out
  refused-listed p e so = text_listed (Err p) e so
