-- Laws of the listing: one for each way out of a function.
use Prim.Native.Nat.{ℕ, ◌≤◌}
use mathlib.Core.Bool.{false}
use mathlib.Core.List.{List, ◌++◌, append-nil}
use mathlib.Core.Path.{◌≡◌, sym, ap, ◌∙◌, subst}
use lib.ListN.{length}
use Rattle.entries.proofs.Entries.{lines_there}
use Rattle.entries.specs.Entries.{lines_below}
use Rattle.layout.specs.declared.Header.{Header}
use Rattle.offences.specs.Checks.{base_of}
use Rattle.std.proofs.Common.{Result, Ok, Err}
use Rattle.offences.specs.declared.Offence.{Offence}
use Rattle.paper.specs.Output.{Output, written}
use Rattle.paper.specs.Told.{Told}
use Rattle.reader.specs.Judgement.{Values, heard}
use Rattle.rows.specs.Rows.{header_line, refused_line}
use Rattle.sheet.specs.Sheet.{sheet_of}
use Rattle.tally.proofs.Line.{tally_none}
use Rattle.words.specs.declared.Order.TheVariants.{Little}
use Rattle.listing.specs.Listing.{judged, first_line, line_count, listing_of, listed}
use Rattle.listing.proofs.EveryListing.{there}

-- ## The whole listing

module _ (s out : List ℕ) (answer : Result Header Offence) (is_answer : heard answer ≡ judged s) (t : Told Output) where
  was_judged : (a : Result Header Offence) → answer ≡ a → (judged s).state ≡ (heard a).state
  was_judged a e = sym (ap (λ (u : Told Values). u.state) is_answer) ∙ ap (λ (b : Result Header Offence). (heard b).state) e

  text_listed : (a : Result Header Offence) → answer ≡ a → (l : List ℕ) → l ≡ first_line (heard a).state ++ lines_below Little s (line_count (heard a).state)
      → t ≡ written l out → t ≡ listed s out
  unfolding listing_of
  text_listed a e l is_l so =
      so ∙ ap (λ (k : List ℕ). written k out) (is_l ∙ ap (λ (v : Values). first_line v ++ lines_below Little s (line_count v)) (sym (was_judged a e)))

  -- all that was returned is there, and none is missing
  pub accepted-listed : (h : Header) → answer ≡ Ok h → t ≡ written (sheet_of Little s h h.returned h.returned false) out → t ≡ listed s out
  unfolding sheet_of
  accepted-listed h e so =
      let n : ℕ = h.returned in
      let all : 1 ≤ n → base_of n ≤ length s = subst (λ (v : Values). 1 ≤ line_count v → base_of (line_count v) ≤ length s) (was_judged (Ok h) e) (there s).0 in
      text_listed (Ok h) e _ ((λ i. header_line h ++ lines_there Little s n all i ++ tally_none n i) ∙ append-nil (header_line h ++ lines_below Little s n)) so

  pub refused-listed : (p : Offence) → answer ≡ Err p → t ≡ written (refused_line p.0) out → t ≡ listed s out
  refused-listed p e so = text_listed (Err p) e (refused_line p.0) (sym (append-nil (refused_line p.0))) so
