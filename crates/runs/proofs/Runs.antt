-- Laws of a script as it runs: one for each way out of a function.
use Prim.Native.Nat.{ℕ, ◌-◌, ◌<◌}
use mathlib.Core.Bool.{Bool, true, false}
use mathlib.Core.List.{List}
use mathlib.Core.Path.{◌≡◌, refl, sym, ap, ◌∙◌}
use lib.ListN.{length, take, drop}
use Rattle.acts.specs.Acts.{heard, acted, acted_on, page_on, lent_on}
use Rattle.acts.specs.declared.Acted.{Acted}
use Rattle.arguments.specs.declared.Line.{Line}
use Rattle.pieces.proofs.EveryLine.{taken_further}
use Rattle.pieces.specs.Pieces.{nothing, taken_from}
use Rattle.pieces.specs.declared.Gathered.{Gathered}
use Rattle.pieces.specs.declared.Taken.{Taken}
use Rattle.replies.specs.Replies.{text_of}
use Rattle.script.specs.Names.{meaning_of}
use Rattle.workbench.specs.declared.Bench.{Bench}
use Rattle.writing.specs.Writing.{stored_in, ended_in}
use Rattle.runs.specs.Runs.{text_said, said_in, obeyed, went_on, page_gone, lent_gone, out_gone}
use Rattle.runs.specs.declared.Obeyed.{Obeyed}
use Rattle.runs.specs.declared.Run.{Run}
use Rattle.runs.specs.declared.Went.{Went}

-- ## A line

module _ (b : Bench) (line : Gathered) (l : Line) (is_l : l ≡ meaning_of line) (page lent out : List ℕ) where
  pub obeyed_page : (x : List ℕ) → x ≡ page_on b l page lent → x ≡ page_on b (meaning_of line) page lent
  obeyed_page x is_x = is_x ∙ ap (λ (m : Line). page_on b m page lent) is_l

  pub obeyed-lent : (x : List ℕ) → x ≡ lent_on b l page lent → x ≡ lent_on b (meaning_of line) page lent
  obeyed-lent x is_x = is_x ∙ ap (λ (m : Line). lent_on b m page lent) is_l

  module _ (a : Acted) (p q part : List ℕ) (is_a : acted a ≡ acted_on b l page lent) (is_p : p ≡ page_on b l page lent) (is_q : q ≡ lent_on b l page lent)
      (is_part : part ≡ take a.bench.kept p) where
    act : acted a ≡ acted_on b (meaning_of line) page lent
    act = is_a ∙ ap (λ (m : Line). acted_on b m page lent) is_l

    text : text_of (heard a.reply) a.bench.device part q ≡ text_said b (meaning_of line) page lent
    unfolding text_said
    text =
        ap (λ (s : List ℕ). text_of (heard a.reply) a.bench.device s q) is_part
        ∙ (λ i. text_of (act i).saying (act i).bench.device (take (act i).bench.kept (obeyed_page p is_p i)) (obeyed-lent q is_q i))

    pub obeyed_bench : (n : ℕ) → n ≡ ended_in 140000 out 0 (text_of (heard a.reply) a.bench.device part q)
        → record { bench = a.bench; said = n } ≡ obeyed b line page lent out
    obeyed_bench n is_n = λ i. record { bench = (act i).bench; said = (is_n ∙ ap (ended_in 140000 out 0) text) i }

    pub obeyed_out : (x : List ℕ) → x ≡ stored_in 140000 out 0 (text_of (heard a.reply) a.bench.device part q) → x ≡ said_in b line page lent out
    obeyed_out x is_x = is_x ∙ ap (stored_in 140000 out 0) text

-- ## A piece of input

module _ (run : Run) (t : Taken) (page lent out : List ℕ) where
  module _ (e : t.whole ≡ false) where
    pub kept_went : record { run = record { line = t.line; bench = run.bench }; at = t.at; said = 0 } ≡ went_on run t page lent out
    unfolding went_on
    kept_went = sym (rw e)

    pub kept_page : page ≡ page_gone run t page lent
    unfolding page_gone
    kept_page = sym (rw e)

    pub kept_lent : lent ≡ lent_gone run t page lent
    unfolding lent_gone
    kept_lent = sym (rw e)

    pub kept_out : out ≡ out_gone run t page lent out
    unfolding out_gone
    kept_out = sym (rw e)

  module _ (e : t.whole ≡ true) where
    pub whole_went : (o : Obeyed) (g : Gathered) → o ≡ obeyed run.bench t.line page lent out → g ≡ nothing
        → record { run = record { line = g; bench = o.bench }; at = t.at; said = o.said } ≡ went_on run t page lent out
    unfolding went_on
    whole_went o g is_o is_g = (λ i. record { run = record { line = is_g i; bench = (is_o i).bench }; at = t.at; said = (is_o i).said }) ∙ sym (rw e)

    pub whole_page : (x : List ℕ) → x ≡ page_on run.bench (meaning_of t.line) page lent → x ≡ page_gone run t page lent
    unfolding page_gone
    whole_page x is_x = is_x ∙ sym (rw e)

    pub whole_lent : (x : List ℕ) → x ≡ lent_on run.bench (meaning_of t.line) page lent → x ≡ lent_gone run t page lent
    unfolding lent_gone
    whole_lent x is_x = is_x ∙ sym (rw e)

    pub whole_out : (x : List ℕ) → x ≡ said_in run.bench t.line page lent out → x ≡ out_gone run t page lent out
    unfolding out_gone
    whole_out x is_x = is_x ∙ sym (rw e)

-- a piece, by what was taken of it
module _ (run : Run) (t u : Taken) (e : t ≡ u) (page lent out : List ℕ) where
  pub as_went : (w : Went) → w ≡ went_on run t page lent out → w ≡ went_on run u page lent out
  as_went w is_w = is_w ∙ ap (λ (v : Taken). went_on run v page lent out) e

  pub as_page : (x : List ℕ) → x ≡ page_gone run t page lent → x ≡ page_gone run u page lent
  as_page x is_x = is_x ∙ ap (λ (v : Taken). page_gone run v page lent) e

  pub as_lent : (x : List ℕ) → x ≡ lent_gone run t page lent → x ≡ lent_gone run u page lent
  as_lent x is_x = is_x ∙ ap (λ (v : Taken). lent_gone run v page lent) e

  pub as_out : (x : List ℕ) → x ≡ out_gone run t page lent out → x ≡ out_gone run u page lent out
  as_out x is_x = is_x ∙ ap (λ (v : Taken). out_gone run v page lent out) e

-- the piece goes on further behind
pub went_further : (run : Run) (piece page lent out : List ℕ) (from : ℕ) (w : Went) → w ≡ went_on run (taken_from run.line (drop from piece) from) page lent out
    → from < length piece → length piece - w.at < length piece - from
unfolding went_on
went_further run piece page lent out from w is_w less =
    let t : Taken = taken_from run.line (drop from piece) from in
    let place : w.at ≡ t.at = ap (λ (v : Went). v.at) is_w ∙ by_test t.whole refl in
    rw place (taken_further run.line piece from t refl less)
  where
    by_test : (b : Bool) → (taken_from run.line (drop from piece) from).whole ≡ b
        → (went_on run (taken_from run.line (drop from piece) from) page lent out).at ≡ (taken_from run.line (drop from piece) from).at
    by_test true e = rw e
    by_test false e = rw e
